-- A core: its table in the shape that the laws of Outcomes take, and what its rooms hold after it.
use mathlib.Core.Path.{◌≡◌, refl, sym, ◌∙◌, ap, fun_ext}
use mathlib.Core.Bool.{Bool, true, false, not, ◌&&◌, and-false, true≢false}
use mathlib.Core.List.{List, [], ◌∷◌, ◌++◌, map}
use Prim.Native.Nat.{ℕ, zero, suc, ◌+◌, ◌*◌, ◌<◌, ◌≤◌, ◌^◌}
use native.Mathlib.Omega.{arith}
use native.Mathlib.Nat.{mul-le-mul_left, add-zero}
use lib.Dec.{leb, ltb, lit<}
use lib.IntN.{ℤ, pos, negsuc}
use lib.ListN.{length, get_or, length-append, length-map}
use borrow.Author.Tests.{lt-ltb, le-ltb, lt-leb, le-leb}
use Rattle.std.specs.Prelude.{Option, Some, None}
use Rattle.paper.specs.Sizes.{derived_room, first_counter, counter_start}
use Rattle.paper.specs.declared.Width.{Width}
use Rattle.paper.specs.declared.Tally.{Tally}
use Rattle.paper.specs.declared.Answer.TheVariants.{Core, Refused}
use Rattle.paper.specs.Clauses.{Clause, variable, positive, every, literals_in}
use Rattle.paper.specs.Session.{Counter, Session, tally_of, remaining, upper_outputs}
use Rattle.paper.specs.Answers.{Refusal, refuse}
use Rattle.paper.specs.Steps.{core, full, member, core_form, members, core_weight, with_counter_over, relax, accepted, next, outcome}
use Rattle.paper.specs.Runs.{Reached}
use Rattle.paper.proofs.Lists.{and_split, every-mono}
use Rattle.paper.proofs.Truths.{Ordered}
use Rattle.paper.proofs.Costs.{reached_sound}
use Rattle.paper.proofs.Reach.{reached_narrow}
use Rattle.paper.proofs.Accepted.{core_takes}
use Rattle.clauses.specs.Lowest.{Plain, lowest}
use Rattle.clauses.specs.Family.{Holds, Appended}
use Rattle.weights.specs.Weights.{Weighs, gained, lost, least_member, Spaced, Elsewhere}
use Rattle.weights.proofs.Remaining.{spaced, elsewhere, least_refused, least_taken, core_remaining, core_short, core_bound, output_free}
use Rattle.rooms.specs.Held.{HeldDerived, HeldCounters, HeldWeights, counter_room, inputs_of}
use Rattle.rooms.proofs.Outcomes.{Refuses, Accepts, begun, part_refuses, full_refuses, room_accepts}
use Rattle.rooms.proofs.Families.{was_full, more_held}

-- ── A counter's inputs are the core's literals ──

positive_literals : (c : Clause) → every positive c ≡ true → map pos (map variable c) ≡ c
positive_literals [] e = refl
positive_literals (pos v ∷ c) e = ap (λ x. pos v ∷ x) (positive_literals c (and_split (ltb 0 v) _ e).1)
positive_literals (negsuc v ∷ c) e = let z : ◌≡◌ {A = ℕ} 0 1 = cc in absurd (omega arith)

-- ── The room of inputs is never too small for one counter more ──

inputs_fit : (u : Width) (xs : List Counter) (start : ℕ) → Ordered u start xs → literals_in (map inputs_of xs) ≤ u.literals * length xs
inputs_fit u [] start o = omega arith
inputs_fit u (x ∷ xs) start o =
    let k = o.1 in
    let l : length (inputs_of x) ≡ length x.inputs = length-map x.inputs pos in
    let ih = inputs_fit u xs (start + u.stride) o.4 in
    omega arith

module _ (s : Session) (r : Reached s) (c : Clause) (short : length c ≤ s.sheet.width.literals)
    (few : length s.work.counters < s.sheet.width.counters) where
  pub roomy : full (counter_room s.sheet.width) (map inputs_of s.work.counters) c ≡ false
  roomy =
      let u = s.sheet.width in
      let n : length (map inputs_of s.work.counters) ≡ length s.work.counters = length-map s.work.counters inputs_of in
      let k = inputs_fit u s.work.counters first_counter (reached_sound s r).ordered in
      let m : u.literals * suc (length s.work.counters) ≤ u.literals * u.counters = mul-le-mul_left u.literals few in
      rw (
        lt-leb u.counters (length (map inputs_of s.work.counters)) (omega arith),
        le-ltb (u.counters * u.literals) (literals_in (map inputs_of s.work.counters) + length c) (omega arith),
      )

-- ── One member makes no counter, several make one ──

counter_none : (xs : List ℕ) (w : ℕ) (cs : List Counter) → length xs ≤ 1 → with_counter_over xs w cs ≡ cs
counter_none [] w cs h = refl
counter_none (x ∷ []) w cs h = refl
counter_none (x ∷ (y ∷ ys)) w cs h = absurd (omega arith)

counter_new : (xs : List ℕ) (w : ℕ) (cs : List Counter) → 2 ≤ length xs → with_counter_over xs w cs ≡ cs ++ (record { inputs = xs; weight = w } ∷ [])
counter_new [] w cs h = absurd (omega arith)
counter_new (x ∷ []) w cs h = absurd (omega arith)
counter_new (x ∷ (y ∷ ys)) w cs h = refl

upper_none : (start n : ℕ) → n ≤ 1 → upper_outputs start n ≡ []
upper_none start zero h = refl
upper_none start (suc zero) h = refl
upper_none start (suc (suc n)) h = absurd (omega arith)

gained_none : (f : ℕ → ℕ) (w : ℕ) → gained f w [] ≡ f
gained_none f w = fun_ext (λ v. add-zero (f v))

inputs_snoc : (cs : List Counter) (x : Counter) → map inputs_of (cs ++ (x ∷ [])) ≡ map inputs_of cs ++ (inputs_of x ∷ [])
inputs_snoc [] x = refl
inputs_snoc (y ∷ cs) x = ap (λ l. inputs_of y ∷ l) (inputs_snoc cs x)

-- ── What the code reads ──

module _ (s : Session) (t : Tally) (eq : t ≡ tally_of s) (d : ℕ) where
  pub clause_is : (literals : List ℤ) (ends : List ℕ) → HeldDerived literals ends s → (c : Clause)
      → ((size most : ℕ) (family : List Clause) → Holds size most literals ends t.derived family → c ≡ get_or family d [])
      → c ≡ get_or s.work.derived d []
  clause_is literals ends H c f = f derived_room.literals derived_room.clauses s.work.derived (rw eq H)

  pub least_is : (u : Width) → u ≡ s.sheet.width → Reached s → (left outputs : List ℕ) → HeldWeights left outputs s → (c : Clause)
      (found : Option ℕ) → ((f : ℕ → ℕ) → Spaced u → Weighs u left outputs f → Elsewhere u f → found ≡ least_member f c)
      → found ≡ least_member (remaining s.sheet s.work) c
  least_is u same r left outputs G c found f =
      f (remaining s.sheet s.work) (rw same (spaced s r)) (rw same G) (rw same (elsewhere s r))

-- ── A core, as the code reads it ──

module _ (s : Session) (t : Tally) (eq : t ≡ tally_of s) (d : ℕ) where
  abbrev table : List Refusal
  table = refuse 21 (leb (length s.work.derived) d) ∷ refuse 22 (not (core_form s.sheet s.work (get_or s.work.derived d []))) ∷ []

  plain : Plain table
  plain = (refl, omega arith, (refl, omega arith, tt))

  abbrev crowded : Bool
  crowded = ltb 1 (length (members s.work d)) && leb s.sheet.width.counters (length s.work.counters)

  module _ (inputs : List ℤ) (ends left outputs : List ℕ) (H : HeldCounters inputs ends s) (G : HeldWeights left outputs s) where
    -- What a refusal hands back and leaves.
    abbrev Left : ℕ → Type 0
    Left k =
        (record { tally = t; answer = Refused k } ≡ outcome s (core d))
        × HeldCounters inputs ends (next s (core d)) × HeldWeights left outputs (next s (core d))

    left_all : (k : ℕ) → Refuses s t (core d) k → Left k
    left_all k r = (r.out, rw r.same H, rw r.same G)

    module _ (begins : t.variables ≡ 0 → ⊥) where
      derived_is : t.derived ≡ length s.work.derived
      derived_is = ap (λ (x : Tally). x.derived) eq

      counters_are : t.counters ≡ length s.work.counters
      counters_are = ap (λ (x : Tally). x.counters) eq

      -- `c` is the clause that the code read, and `found` the least weight that it found.
      module _ (there : d < t.derived) (reached : Reached s) (c : Clause) (is : c ≡ get_or s.work.derived d []) (found : Option ℕ)
          (e : found ≡ least_member (remaining s.sheet s.work) c) where
        found_there : leb (length s.work.derived) d ≡ false
        found_there = let q = derived_is in lt-leb (length s.work.derived) d (omega arith)

        pub core_unformed : found ≡ None → Left 22
        core_unformed z =
            let form : core_form s.sheet s.work (get_or s.work.derived d []) ≡ false
            = least_refused s.sheet s.work (get_or s.work.derived d []) (rw is at (sym e ∙ z)) in
            left_all 22 (part_refuses s t eq (core d) table crowded refl plain begins 22 (rw (found_there, form)) (λ e. omega arith))

        -- The core stands: its weight, and what it leaves.
        module _ (w : ℕ) (some : found ≡ Some w) where
          took : (core_form s.sheet s.work (get_or s.work.derived d []) ≡ true) × (w ≡ core_weight s.sheet s.work d)
          took = least_taken s.sheet s.work (get_or s.work.derived d []) w (rw is at (sym e ∙ some))

          form : core_form s.sheet s.work (get_or s.work.derived d []) ≡ true
          form = took.0

          weight_is : w ≡ core_weight s.sheet s.work d
          weight_is = took.1

          passes : 0 ≡ lowest table
          passes = rw (found_there, form)

          length_is : length (members s.work d) ≡ length c
          length_is = length-map (get_or s.work.derived d []) variable ∙ ap length (sym is)

          pub core_crowded : 2 ≤ length c → s.sheet.width.counters ≤ t.counters → Left 23
          core_crowded two past =
              let q = counters_are in
              let l = length_is in
              left_all 23 (full_refuses s t eq (core d) table crowded refl plain begins 0 passes refl
              (rw (lt-ltb 1 (length (members s.work d)) (omega arith), le-leb s.sheet.width.counters (length s.work.counters) (omega arith))))

          taken : crowded ≡ false → Accepts s (core d)
          taken = room_accepts s t eq (core d) table crowded refl plain begins 0 passes refl

          bound_is : t.bound + w ≡ s.work.bound + core_weight s.sheet s.work d
          bound_is = let q = ap (λ (x : Tally). x.bound) eq in rw (weight_is, q)

          bound_fits : accepted s (core d) ≡ true → t.bound + w < 2 ^ 32
          bound_fits a = let k = core_bound s reached d a in omega (arith, bound_is)

          -- The outcome with so many counters.
          abbrev Relaxed : ℕ → Type 0
          Relaxed counters =
              record {
                tally = record {
                  variables = t.variables;
                  rules = t.rules;
                  wishes = t.wishes;
                  derived = t.derived;
                  counters = counters;
                  bound = t.bound + w;
                };
                answer = Core (t.bound + w) w;
              } ≡ outcome s (core d)

          outcome_is : (r : Accepts s (core d)) (a : accepted s (core d) ≡ true) (counters : ℕ)
              → counters ≡ length (with_counter_over (members s.work d) (core_weight s.sheet s.work d) s.work.counters) → Relaxed counters
          outcome_is r a counters n = rw (bound_is, weight_is, n, eq) r.out

          pub core_single : length c < 2 → (left' outputs' : List ℕ)
              → ((f : ℕ → ℕ) → Spaced s.sheet.width → Weighs s.sheet.width left outputs f → Weighs s.sheet.width left' outputs' (lost f w (map variable c)))
              → (t.bound + w < 2 ^ 32) × Relaxed t.counters × HeldCounters inputs ends (next s (core d)) × HeldWeights left' outputs' (next s (core d))
          core_single one left' outputs' lowers =
              let l = length_is in
              let free : crowded ≡ false = rw (le-ltb 1 (length (members s.work d)) (omega arith)) in
              let r = taken free in
              let a = core_takes s d (record {
                begun = begun s t eq begins;
                there = (let q = derived_is in omega arith);
                form = form;
                room = free;
              }) in
              let none = counter_none (members s.work d) (core_weight s.sheet s.work d) s.work.counters (omega arith) in
              let q = counters_are in
              let f = remaining s.sheet s.work in
              let w' = core_weight s.sheet s.work d in
              let xs = members s.work d in
              let after : remaining s.sheet (relax s.work (members s.work d) (core_weight s.sheet s.work d))
              ≡ lost (remaining s.sheet s.work) (core_weight s.sheet s.work d) (members s.work d)
              = core_remaining s reached d a
              ∙ ap (gained (lost f w' xs) w') (upper_none (counter_start s.sheet.width (length s.work.counters)) (length xs) (omega arith))
              ∙ gained_none (lost f w' xs) w' in (
                bound_fits a,
                outcome_is r a t.counters (rw none q),
                rw (r.effects, none) H,
                rw (r.effects, after) (rw (is, weight_is) at (lowers f (spaced s reached) G)),
              )

          module _ (two : 2 ≤ length c) (few : t.counters < s.sheet.width.counters) where
            free : crowded ≡ false
            free = let q = counters_are in rw (lt-leb s.sheet.width.counters (length s.work.counters) (omega arith)) (and-false (ltb 1 (length (members s.work d))))

            accept : accepted s (core d) ≡ true
            accept = core_takes s d (record {
              begun = begun s t eq begins;
              there = (let q = derived_is in omega arith);
              form = form;
              room = free;
            })

            pub short : length c ≤ s.sheet.width.literals
            short = let l = length_is in let k = core_short s reached d accept in omega arith

            -- The inputs are appended, for their room is never full before the counters are.
            module _ (x : Bool) (inputs' : List ℤ) (ends' : List ℕ) (ap' : Appended inputs ends t.counters c x inputs' ends') where
              small : (counter_room s.sheet.width).literals < 2 ^ 32
              small = rw (reached_narrow s reached) (lit< tt)

              count_is : t.counters ≡ length (map inputs_of s.work.counters)
              count_is = counters_are ∙ sym (length-map s.work.counters inputs_of)

              pub appended : x ≡ true
              appended = go x refl
                where
                  go : (y : Bool) → x ≡ y → x ≡ true
                  go true f = f
                  go false f =
                      let q = counters_are in
                      let was = was_full (counter_room s.sheet.width) small inputs ends (map inputs_of s.work.counters) H t.counters count_is c x inputs' ends' ap' f in
                      let no = roomy s reached c short (omega arith) in
                      absurd (true≢false (sym was ∙ no))

              pub core_several : (left' outputs' outputs'' : List ℕ)
                  → ((f : ℕ → ℕ) → Spaced s.sheet.width → Weighs s.sheet.width left outputs f → Weighs s.sheet.width left' outputs' (lost f w (map variable c)))
                  → ((f : ℕ → ℕ) → Spaced s.sheet.width → Weighs s.sheet.width left' outputs' f → length c ≤ s.sheet.width.literals
                  → ((i : ℕ) → 0 < i → i < length c → f (counter_start s.sheet.width t.counters + i) ≡ 0)
                  → Weighs s.sheet.width left' outputs'' (gained f w (upper_outputs (counter_start s.sheet.width t.counters) (length c))))
                  → (t.bound + w < 2 ^ 32) × Relaxed (t.counters + 1) × HeldCounters inputs' ends' (next s (core d)) × HeldWeights left' outputs'' (next s (core d))
              core_several left' outputs' outputs'' lowers raises =
                  let l = length_is in
                  let q = counters_are in
                  let r = taken free in
                  let f = remaining s.sheet s.work in
                  let w' = core_weight s.sheet s.work d in
                  let xs = members s.work d in
                  let new : Counter = record { inputs = members s.work d; weight = core_weight s.sheet s.work d } in
                  let made = counter_new xs w' s.work.counters (omega arith) in
                  let members-positive = every-mono (member s.sheet s.work) positive (get_or s.work.derived d []) (λ k h. (and_split (positive k) _ h).0)
                  (and_split (ltb 0 (length (get_or s.work.derived d []))) _ form).1 in
                  let same : inputs_of (record { inputs = members s.work d; weight = core_weight s.sheet s.work d }) ≡ c
                  = positive_literals (get_or s.work.derived d []) members-positive ∙ sym is in
                  let more = more_held (counter_room s.sheet.width) small inputs ends (map inputs_of s.work.counters) H t.counters count_is c x inputs' ends' ap' appended in
                  let outs = raises (lost f w (map variable c)) (spaced s reached) (lowers f (spaced s reached) G) short
                  (λ i h k. let z = output_free s reached i in rw q (omega arith)) in (
                    bound_fits accept,
                    outcome_is r accept (t.counters + 1) (rw (made, length-append s.work.counters (new ∷ []), q)),
                    rw (r.effects, made, inputs_snoc s.work.counters new, same) more,
                    rw (r.effects, core_remaining s reached d accept, ← q, l, ← weight_is, ← is) outs,
                  )
