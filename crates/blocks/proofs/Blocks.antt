-- How a run over a block goes on: without a record, by one record and the rest, and to its end.
use mathlib.Core.Path.{◌≡◌, refl, sym, ap, ◌∙◌, subst}
use mathlib.Core.Bool.{Bool, true, false}
use mathlib.Core.List.{List, [], ◌∷◌, ◌++◌, append_assoc, append-nil}
use Prim.Native.Nat.{ℕ, zero, suc, ◌+◌, ◌*◌, ◌-◌, ◌≤◌}
use native.Mathlib.Omega.{arith}
use lib.ListN.{length, drop}
use lib.Seq.{sets, drop-drop, length-sets}
use Rattle.paper.specs.declared.Front.{Front}
use Rattle.paper.specs.declared.Front.TheVariants.{Short, Wrong, Whole}
use Rattle.paper.specs.declared.Numbers.{Numbers}
use Rattle.paper.specs.declared.Outcome.{Outcome}
use Rattle.paper.specs.declared.Tally.{Tally}
use Rattle.paper.specs.Clauses.{pick}
use Rattle.paper.specs.Session.{Session, tally_of}
use Rattle.paper.specs.Answers.{give, numbers}
use Rattle.paper.specs.Runs.{Line}
use Rattle.paper.specs.Records.{Record, record_answer, record_next, record_outcome}
use Rattle.paper.specs.Inputs.{front, onFront, record_in, records_in, bytes_of, record_line, record_lines, after, end_line, line_text, text}
use Rattle.paper.proofs.Inputs.{stands, payload_long, none_at}
use Rattle.rooms.specs.Held.{Rooms}
use Rattle.rooms.specs.Kept.{Kept}
use Rattle.lines.specs.Lines.{Written}
use Rattle.lines.proofs.Lines.{written-append}
use Rattle.frames.specs.Frames.{stops}
use Rattle.blocks.specs.declared.Progress.{Progress}
use Rattle.blocks.specs.Blocks.{Ran, CarriedOn, Moved, left_in, lines_in, progress_of}

-- ── The records that are taken ──

pub none_whole : (bytes : List ℕ) (x : Front) → x ≡ front bytes → ((n : ℕ) → x ≡ Whole n → ⊥) → (most : ℕ) → records_in most bytes ≡ []
none_whole bytes Short e h most = none_at most bytes Short (sym e) refl
none_whole bytes Wrong e h most = none_at most bytes Wrong (sym e) refl
none_whole bytes (Whole n) e h most = absurd (h n refl)

pub none_asked : (bytes : List ℕ) (most : ℕ) → most ≡ 0 → records_in most bytes ≡ []
none_asked bytes most e = ap (λ k. records_in k bytes) e

first_taken : (bytes : List ℕ) (most n : ℕ) → (most ≡ 0 → ⊥) → front bytes ≡ Whole n
    → records_in most bytes ≡ record_in n bytes ∷ records_in (most - 1) (drop (4 + n) bytes)
first_taken bytes zero n h f = absurd (h refl)
first_taken bytes (suc most) n h f =
    let one : most ≡ suc most - 1 = omega arith in
    ap (λ (y : Front). onFront y [] [] (λ k. record_in k bytes ∷ records_in most (drop (4 + k) bytes))) f
    ∙ ap (λ k. record_in n bytes ∷ records_in k (drop (4 + n) bytes)) one

module _ (block : List ℕ) (at n : ℕ) (f : front (drop at block) ≡ Whole n) where
  -- What stands behind the record begins `next`.
  pub taken : (most fewer next : ℕ) → (most ≡ 0 → ⊥) → fewer ≡ most - 1 → next ≡ at + 4 + n
      → records_in most (drop at block) ≡ record_in n (drop at block) ∷ records_in fewer (drop next block)
  taken most fewer next more less e =
      let place : at + (4 + n) ≡ next = omega (arith, e) in
      rw less
      (first_taken (drop at block) most n more f
      ∙ ap (λ (left : List ℕ). record_in n (drop at block) ∷ records_in (most - 1) left) (drop-drop (4 + n) at block ∙ ap (λ k. drop k block) place))

  behind : at + 4 + n ≡ at + bytes_of (record_in n (drop at block) ∷ [])
  behind =
      let w = stands (drop at block) n f in
      omega (arith, payload_long (drop at block) n w, w.least)

  -- The record, as the code reads it (`one`), is answered and its line is put behind the others.
  pub carried_one : (one : Record) → one ≡ record_in n (drop at block) → {t : Tally} {rooms rooms' : Rooms} {values values' : List ℕ}
      (place filled : ℕ) (out out' : List ℕ) (end : ℕ) (done : Outcome) (given : Numbers)
      → ((s : Session) → Kept t rooms values s → (done ≡ record_outcome s one) × Kept done.tally rooms' values' (record_next s one))
      → given ≡ numbers done.answer
      → Written out filled (line_text (record { place = place; kind = one.kind; given = given })) end out'
      → CarriedOn t rooms values place at filled out (record_in n (drop at block) ∷ [])
      (record { tally = done.tally; consumed = at + 4 + n; place = place + 1; written = end; stopped = false }) out' rooms' values'
  unfolding text
  carried_one one read {t} {rooms} {rooms'} {values} {values'} place filled out out' end done given answered told w s k =
      let step = answered s k in
      let now : record_next s one ≡ record_next s (record_in n (drop at block)) = ap (record_next s) read in
      let said : given ≡ numbers (record_answer s one) = told ∙ ap (λ (o : Outcome). numbers o.answer) step.0 in
      let line : record { place = place; kind = one.kind; given = given } ≡ record_line place s (record_in n (drop at block)) =
      (λ i. record { place = place; kind = one.kind; given = said i }) ∙ ap (record_line place s) read in
      let texts : line_text (record { place = place; kind = one.kind; given = given }) ≡ text (record_line place s (record_in n (drop at block)) ∷ []) =
      ap line_text line ∙ sym (append-nil (line_text (record_line place s (record_in n (drop at block))))) in (
        record {
          counts = ap (λ (o : Outcome). o.tally) step.0 ∙ ap tally_of now;
          reads = behind;
          stands = refl;
          goes_on = refl;
          lines = subst (λ (x : List ℕ). Written out filled x end out') texts w;
        },
        subst (Kept done.tally rooms' values') now step.1,
      )

-- ── One record and the rest ──

-- What is written leaves the buffer as long as it was.
pub same_room : {buffer buffer' text : List ℕ} {at end : ℕ} → Written buffer at text end buffer' → length buffer' ≡ length buffer
same_room {buffer} {buffer'} {text} {at} w = ap length w.bytes ∙ length-sets buffer at text

pub carried_none : (p : Progress) → p.stopped ≡ false → {rooms : Rooms} {values : List ℕ} (out : List ℕ) (rs : List Record) → rs ≡ []
    → CarriedOn p.tally rooms values p.place p.consumed p.written out rs p out rooms values
unfolding text
carried_none p on {rooms} {values} out rs e s k = (
  subst (λ (x : List Record). Ran s p.place p.consumed p.written out x p out) (sym e)
      (record { counts = k.counts; reads = omega arith; stands = omega arith; goes_on = on; lines = record { bytes = refl; ends = omega arith } }),
  subst (λ (x : List Record). Kept p.tally rooms values (after s x)) (sym e) k,
)

ran_more : (s : Session) (r : Record) (rs : List Record) (place at filled : ℕ) (out out₁ out' : List ℕ) (p q : Progress)
    → Ran s place at filled out (r ∷ []) p out₁
    → Ran (record_next s r) p.place p.consumed p.written out₁ rs q out'
    → Ran s place at filled out (r ∷ rs) q out'
unfolding text
ran_more s r rs place at filled out out₁ out' p q one k =
    let next : p.place ≡ suc place = omega (arith, one.stands) in
    let line = subst (λ (x : List ℕ). Written out filled x p.written out₁) (append-nil (line_text (record_line place s r))) one.lines in
    record {
      counts = k.counts;
      reads = omega (arith, k.reads, one.reads);
      stands = omega (arith, k.stands, one.stands);
      goes_on = k.goes_on;
      lines = written-append line (subst (λ (x : ℕ). Written out₁ p.written (text (record_lines x (record_next s r) rs)) q.written out') next k.lines);
    }

pub carried_more : {t : Tally} {rooms rooms₁ rooms' : Rooms} {values values₁ values' : List ℕ} (r : Record) (all rs : List Record) → all ≡ r ∷ rs
    → (place at filled : ℕ) (out out₁ out' : List ℕ) (p q : Progress)
    → CarriedOn t rooms values place at filled out (r ∷ []) p out₁ rooms₁ values₁
    → CarriedOn p.tally rooms₁ values₁ p.place p.consumed p.written out₁ rs q out' rooms' values'
    → CarriedOn t rooms values place at filled out all q out' rooms' values'
carried_more {t} {rooms} {rooms₁} {rooms'} {values} {values₁} {values'} r all rs e place at filled out out₁ out' p q one rest =
    subst (λ (x : List Record). CarriedOn t rooms values place at filled out x q out' rooms' values') (sym e)
    λ s k.
    let first = one s k in
    let others = rest (record_next s r) first.1 in
    (ran_more s r rs place at filled out out₁ out' p q first.0 others.0, others.1)

-- Where a run stands that has so many records more to answer: whatever these come to, the whole comes to.
pub record Going (t : Tally) (rooms₀ : Rooms) (values₀ : List ℕ) (place most : ℕ) (block out₀ : List ℕ) (rooms : Rooms) (values out : List ℕ)
    (p : Progress) (more : ℕ) : Type 0 where
  pub places : p.place + more ≡ place + most
  pub short : p.written + 65 * more ≤ 65 * most
  pub same : length out ≡ length out₀
  pub goes_on : p.stopped ≡ false
  pub rest : (q : Progress) (out' : List ℕ) (rooms' : Rooms) (values' : List ℕ)
      → CarriedOn p.tally rooms values p.place p.consumed p.written out (records_in more (drop p.consumed block)) q out' rooms' values'
      → CarriedOn t rooms₀ values₀ place 0 0 out₀ (records_in most block) q out' rooms' values'

pub going_from : (t : Tally) {rooms : Rooms} {values : List ℕ} (place most : ℕ) (block out : List ℕ)
    → Going t rooms values place most block out rooms values out (record { tally = t; consumed = 0; place = place; written = 0; stopped = false }) most
going_from t place most block out =
    record { places = refl; short = omega arith; same = refl; goes_on = refl; rest = λ q out' rooms' values' k. k }

module _ {t : Tally} {rooms₀ rooms : Rooms} {values₀ values : List ℕ} {place most : ℕ} {block out₀ out : List ℕ} {p : Progress} {more : ℕ}
    (g : Going t rooms₀ values₀ place most block out₀ rooms values out p more) where
  pub going_on : {rooms₁ : Rooms} {values₁ out₁ : List ℕ} (q : Progress) (n fewer : ℕ) → front (drop p.consumed block) ≡ Whole n → (more ≡ 0 → ⊥) → fewer ≡ more - 1
      → Moved p q n (length out) (length out₁)
      → CarriedOn p.tally rooms values p.place p.consumed p.written out (record_in n (drop p.consumed block) ∷ []) q out₁ rooms₁ values₁
      → Going t rooms₀ values₀ place most block out₀ rooms₁ values₁ out₁ q fewer
  going_on {rooms₁} {values₁} {out₁} q n fewer f some less m one =
      record {
        places = omega (arith, g.places, some, less, m.stands);
        short = omega (arith, g.short, some, less, m.short);
        same = m.same ∙ g.same;
        goes_on = m.goes_on;
        rest = λ r out' rooms' values' k. g.rest r out' rooms' values'
            (carried_more _ _ _ (taken block p.consumed n f more fewer q.consumed some less m.reads) p.place p.consumed p.written out out₁ out' q r one k);
      }

  pub going_ends : records_in more (drop p.consumed block) ≡ []
      → CarriedOn t rooms₀ values₀ place 0 0 out₀ (records_in most block) p out rooms values
  going_ends e = g.rest p out rooms values (carried_none p g.goes_on out _ e)

-- The records that were asked for, by another name.
pub carried_same : {t : Tally} {rooms rooms' : Rooms} {values values' : List ℕ} {place at filled : ℕ} {out out' : List ℕ} {p : Progress}
    {rs rs' : List Record} → rs ≡ rs' → CarriedOn t rooms values place at filled out rs p out' rooms' values'
    → CarriedOn t rooms values place at filled out rs' p out' rooms' values'
carried_same {t} {rooms} {rooms'} {values} {values'} {place} {at} {filled} {out} {out'} {p} e k =
    subst (λ (x : List Record). CarriedOn t rooms values place at filled out x p out' rooms' values') e k

-- ── To the end of a block ──

text-append : (xs ys : List Line) → text (xs ++ ys) ≡ text xs ++ text ys
unfolding text
text-append [] ys = refl
text-append (x ∷ xs) ys = ap (λ (t : List ℕ). line_text x ++ t) (text-append xs ys) ∙ sym (append_assoc (line_text x) (text xs) (text ys))

module _ (last : Bool) (place : ℕ) (s : Session) (block out out' : List ℕ) (rs : List Record) (p : Progress) (k : Ran s place 0 0 out rs p out') where
  took : p.consumed ≡ bytes_of rs
  took = omega (arith, k.reads)

  left_is : drop p.consumed block ≡ left_in block rs
  left_is = ap (λ n. drop n block) took

  -- The run does not end here.
  pub block_on : stops last (drop p.consumed block) ≡ false
      → (p ≡ progress_of last place s block rs) × (out' ≡ sets out 0 (text (lines_in last place s block rs)))
  block_on e =
      let wrote : p.written ≡ length (text (record_lines place s rs)) = omega (arith, k.lines.ends) in
      let no : stops last (left_in block rs) ≡ false = ap (stops last) (sym left_is) ∙ e in
      let all : record_lines place s rs ≡ lines_in last place s block rs =
      sym (append-nil (record_lines place s rs)) ∙ ap (λ b. record_lines place s rs ++ pick b (end_line (place + length rs) ∷ []) []) (sym no) in (
        λ i. record {
          tally = k.counts i;
          consumed = took i;
          place = k.stands i;
          written = (wrote ∙ ap (λ (ls : List Line). length (text ls)) all) i;
          stopped = (k.goes_on ∙ sym no) i;
        },
        k.lines.bytes ∙ ap (λ (ls : List Line). sets out 0 (text ls)) all,
      )

  -- It ends here, with one line more.
  pub block_stops : stops last (drop p.consumed block) ≡ true → (end : ℕ) (out'' : List ℕ)
      → Written out' p.written (line_text (record { place = p.place; kind = 0; given = give 10 0 0 })) end out''
      → (record { tally = p.tally; consumed = p.consumed; place = p.place; written = end; stopped = true } ≡ progress_of last place s block rs)
      × (out'' ≡ sets out 0 (text (lines_in last place s block rs)))
  unfolding text
  block_stops e end out'' w =
      let yes : stops last (left_in block rs) ≡ true = ap (stops last) (sym left_is) ∙ e in
      let here : end_line p.place ≡ end_line (place + length rs) = ap end_line k.stands in
      let all : text (record_lines place s rs) ++ line_text (end_line p.place) ≡ text (lines_in last place s block rs) =
      ap (λ (l : List ℕ). text (record_lines place s rs) ++ l) (sym (append-nil (line_text (end_line p.place))))
      ∙ sym (text-append (record_lines place s rs) (end_line p.place ∷ []))
      ∙ ap (λ (l : Line). text (record_lines place s rs ++ (l ∷ []))) here
      ∙ ap (λ b. text (record_lines place s rs ++ pick b (end_line (place + length rs) ∷ []) [])) (sym yes) in
      let both = written-append k.lines w in
      let wrote : end ≡ length (text (record_lines place s rs) ++ line_text (end_line p.place)) = omega (arith, both.ends) in (
        λ i. record {
          tally = k.counts i;
          consumed = took i;
          place = k.stands i;
          written = (wrote ∙ ap length all) i;
          stopped = sym yes i;
        },
        both.bytes ∙ ap (sets out 0) all,
      )
