-- Demand 3's reordering. Rules read and write only the rules, wishes only the wishes, and both only n and the width besides; so a
-- run falls apart into its rules, its wishes and its work, and these can be put together again in another order.
use mathlib.Core.Path.{◌≡◌, refl, sym, ◌∙◌, ap, subst}
use mathlib.Core.Bool.{Bool, true, false, ◌||◌, true≢false, false≢true}
use mathlib.Core.List.{List, [], ◌∷◌, ◌++◌}
use Prim.Native.Nat.{◌≤◌}
use native.Mathlib.Omega.{arith}
use lib.ListN.{length}
use borrow.Author.Tests.{lt-ltb}
use Rattle.paper.specs.Sizes.{most_variables}
use Rattle.paper.specs.Clauses.{every, pick}
use Rattle.paper.specs.Session.{Sheet, Work, Session, fresh, no_work}
use Rattle.paper.specs.Steps.{Step, opening, rule, wish, derive, core, judge, opened, accepted, reply, effect, next}
use Rattle.paper.specs.Runs.{Entry, Runs, select, is_rule, is_wish, is_work}
use Rattle.paper.specs.Promises.{AnyMixture, Reordered, opened_with}
use Rattle.paper.specs.declared.Answer.{Answer}
use Rattle.paper.proofs.Lists.{and_split, and_both}
use Rattle.paper.proofs.Tables.{answer_accepted, next_accepted}
use Rattle.paper.proofs.Accepted.{opens}
use Rattle.paper.proofs.Costs.{reached_sound}
use Rattle.paper.proofs.Later.{Later, still_open, run_later, derive_later, core_later}

-- An accepted step in front of a run.
ahead : (s : Session) (m : Step) (r : Answer) (es : List Entry) (s' : Session) → accepted s m ≡ true → reply s m ≡ r → Runs (effect s m) es s'
    → Runs s (record { step = m; answer = r } ∷ es) s'
ahead s m r es s' e f h = (e, answer_accepted s m e ∙ f, rw (next_accepted s m e) h)

-- And off it again.
behind : (s : Session) (x : Entry) (es : List Entry) (s' : Session) → Runs s (x ∷ es) s'
    → (accepted s x.step ≡ true) × (reply s x.step ≡ x.answer) × Runs (effect s x.step) es s'
behind s x es s' h = (h.0, sym (answer_accepted s x.step h.0) ∙ h.1, rw (next_accepted s x.step h.0) at h.2)

pub joined : (s : Session) (es fs : List Entry) (s' s'' : Session) → Runs s es s' → Runs s' fs s'' → Runs s (es ++ fs) s''
joined s [] fs s' s'' h k = rw h k
joined s (e ∷ es) fs s' s'' h k = (h.0, h.1, joined (next s e.step) es fs s' s'' h.2 k)

-- ── A run's rules, and its wishes, by themselves ──

abbrev rules_only : Sheet → Session
rules_only S = record { sheet = record { width = S.width; variables = S.variables; rules = S.rules; wishes = [] }; work = no_work }

abbrev wishes_only : Sheet → Session
wishes_only S = record { sheet = record { width = S.width; variables = S.variables; rules = []; wishes = S.wishes }; work = no_work }

record Parts (S : Sheet) (es : List Entry) (S' : Sheet) : Type 0 where
  rules : Runs (rules_only S) (select is_rule es) (rules_only S')
  wishes : Runs (wishes_only S) (select is_wish es) (wishes_only S')

part_step : (s : Session) (m : Step) (r : Answer) (es : List Entry) (S' : Sheet) → opened s ≡ true → accepted s m ≡ true → reply s m ≡ r
    → Parts (effect s m).sheet es S' → Parts s.sheet (record { step = m; answer = r } ∷ es) S'
part_step s (opening n) r es S' o e f p = absurd (true≢false (sym o ∙ (opens s n e).closed))
part_step s (rule c) r es S' o e f p =
    record { rules = ahead (rules_only s.sheet) (rule c) r (select is_rule es) (rules_only S') e f p.rules; wishes = p.wishes }
part_step s (wish w c) r es S' o e f p =
    record { rules = p.rules; wishes = ahead (wishes_only s.sheet) (wish w c) r (select is_wish es) (wishes_only S') e f p.wishes }
part_step s (derive c hints) r es S' o e f p = record { rules = p.rules; wishes = p.wishes }
part_step s (core d) r es S' o e f p = record { rules = p.rules; wishes = p.wishes }
part_step s (judge a) r es S' o e f p = record { rules = p.rules; wishes = p.wishes }

parts : (s : Session) (es : List Entry) (s' : Session) → opened s ≡ true → Runs s es s' → Parts s.sheet es s'.sheet
parts s [] s' o h = record { rules = ap (λ (z : Session). rules_only z.sheet) h; wishes = ap (λ (z : Session). wishes_only z.sheet) h }
parts s (x ∷ es) s' o h =
    let b = behind s x es s' h in
    let rest = parts (next s x.step) es s' (still_open s x.step o h.0) h.2 in
    part_step s x.step x.answer es s'.sheet o b.0 b.1
    (subst (λ (z : Session). Parts z.sheet es s'.sheet) (next_accepted s x.step h.0) rest)

-- ── Rules and wishes together again, in any mixture ──

mix_step : (S : Sheet) (W : Work) (m : Step) (r : Answer) (es : List Entry) (S' : Sheet) → (is_rule m || is_wish m) ≡ true
    → Parts S (record { step = m; answer = r } ∷ es) S'
    → ((T : Sheet) → Parts T es S' → Runs (record { sheet = T; work = W }) es (record { sheet = S'; work = W }))
    → Runs (record { sheet = S; work = W }) (record { step = m; answer = r } ∷ es) (record { sheet = S'; work = W })
mix_step S W (opening n) r es S' k p ih = absurd (false≢true k)
mix_step S W (rule c) r es S' k p ih =
    let b = behind (rules_only S) (record { step = rule c; answer = r }) (select is_rule es) (rules_only S') p.rules in
    let s : Session = record { sheet = S; work = W } in
    ahead s (rule c) r es (record { sheet = S'; work = W }) b.0 b.1
    (ih (effect s (rule c)).sheet (record { rules = b.2; wishes = p.wishes }))
mix_step S W (wish w c) r es S' k p ih =
    let b = behind (wishes_only S) (record { step = wish w c; answer = r }) (select is_wish es) (wishes_only S') p.wishes in
    let s : Session = record { sheet = S; work = W } in
    ahead s (wish w c) r es (record { sheet = S'; work = W }) b.0 b.1
    (ih (effect s (wish w c)).sheet (record { rules = p.rules; wishes = b.2 }))
mix_step S W (derive c hints) r es S' k p ih = absurd (false≢true k)
mix_step S W (core d) r es S' k p ih = absurd (false≢true k)
mix_step S W (judge a) r es S' k p ih = absurd (false≢true k)

mixed : (S : Sheet) (W : Work) (es : List Entry) (S' : Sheet) → every (λ (e : Entry). is_rule e.step || is_wish e.step) es ≡ true
    → Parts S es S' → Runs (record { sheet = S; work = W }) es (record { sheet = S'; work = W })
mixed S W [] S' k p = λ i. record {
  sheet = record {
    width = (p.rules i).sheet.width;
    variables = (p.rules i).sheet.variables;
    rules = (p.rules i).sheet.rules;
    wishes = (p.wishes i).sheet.wishes;
  };
  work = W;
}
mixed S W (e ∷ es) S' k p =
    let b = and_split (is_rule e.step || is_wish e.step) _ k in
    mix_step S W e.step e.answer es S' b.0 p (λ T q. mixed T W es S' b.1 q)

-- ── Derived clauses and cores over the sheet that the run ends in ──

work_step : (s : Session) (m : Step) (r : Answer) (es : List Entry) (s' : Session) → Later s.sheet s'.sheet
    → length s'.sheet.wishes ≤ most_variables → accepted s m ≡ true → reply s m ≡ r
    → Runs (record { sheet = s'.sheet; work = (effect s m).work }) (select is_work es) s' → opened s ≡ true
    → Runs (record { sheet = s'.sheet; work = s.work }) (select is_work (record { step = m; answer = r } ∷ es)) s'
work_step s (opening n) r es s' l few e f h o = absurd (true≢false (sym o ∙ (opens s n e).closed))
work_step s (rule c) r es s' l few e f h o = h
work_step s (wish w c) r es s' l few e f h o = h
work_step s (derive c hints) r es s' l few e f h o =
    ahead (record { sheet = s'.sheet; work = s.work }) (derive c hints) r (select is_work es) s'
    (derive_later s.sheet s'.sheet s.work l c hints e) f h
work_step s (core d) r es s' l few e f h o =
    let k = core_later s.sheet s'.sheet s.work l few d e in
    ahead (record { sheet = s'.sheet; work = s.work }) (core d) r (select is_work es) s' k.0 (rw k.1 f) (rw k.1 h)
work_step s (judge a) r es s' l few e f h o = h

works : (s : Session) (es : List Entry) (s' : Session) → opened s ≡ true → length s'.sheet.wishes ≤ most_variables → Runs s es s'
    → Runs (record { sheet = s'.sheet; work = s.work }) (select is_work es) s'
works s [] s' o few h = λ i. record { sheet = s'.sheet; work = (h i).work }
works s (x ∷ es) s' o few h =
    let b = behind s x es s' h in
    let rest = works (next s x.step) es s' (still_open s x.step o h.0) few h.2 in
    work_step s x.step x.answer es s' (run_later s (x ∷ es) s' o h) few b.0 b.1
    (subst (λ (z : Session). Runs (record { sheet = s'.sheet; work = z.work }) (select is_work es) s') (next_accepted s x.step h.0) rest) o

-- ── The promises ──

pub any_mixture : AnyMixture
any_mixture n es s h first k p q =
    let b = behind fresh (opened_with n) es s h in
    let t : Session = effect fresh (opening n) in
    let o : opened t ≡ true = lt-ltb 0 n (let g = (opens fresh n b.0).some in omega arith) in
    let few = (reached_sound s (opened_with n ∷ es, h)).few in
    let all = parts t es s o b.2 in
    ahead fresh (opening n) (opened_with n).answer (first ++ select is_work es) s b.0 b.1
    (joined t first (select is_work es) (record { sheet = s.sheet; work = t.work }) s
    (mixed t.sheet t.work first s.sheet k (record { rules = rw p all.rules; wishes = rw q all.wishes }))
    (works t es s o (omega arith) b.2))

-- Of the rules and then the wishes, the rules are the rules and the wishes the wishes.
module _ (p q : Step → Bool) (apart : (m : Step) → p m ≡ true → q m ≡ false) where
  select_same : (es : List Entry) → select p (select p es) ≡ select p es
  select_same [] = refl
  select_same (e ∷ es) = go (p e.step) refl (select_same es)
    where
      go : (b : Bool) → p e.step ≡ b → select p (select p es) ≡ select p es
          → select p (pick b (e ∷ select p es) (select p es)) ≡ pick b (e ∷ select p es) (select p es)
      go true u ih = rw (u, ih)
      go false u ih = ih

  select_other : (es : List Entry) → select q (select p es) ≡ []
  select_other [] = refl
  select_other (e ∷ es) = go (p e.step) refl (select_other es)
    where
      go : (b : Bool) → p e.step ≡ b → select q (select p es) ≡ [] → select q (pick b (e ∷ select p es) (select p es)) ≡ []
      go true u ih = rw (apart e.step u) ih
      go false u ih = ih

select-append : (p : Step → Bool) (es fs : List Entry) → select p (es ++ fs) ≡ select p es ++ select p fs
select-append p [] fs = refl
select-append p (e ∷ es) fs = go (p e.step) (select-append p es fs)
  where
    go : (b : Bool) → select p (es ++ fs) ≡ select p es ++ select p fs
        → pick b (e ∷ select p (es ++ fs)) (select p (es ++ fs)) ≡ pick b (e ∷ select p es) (select p es) ++ select p fs
    go true ih = rw ih
    go false ih = ih

every_selected : (p r : Step → Bool) → ((m : Step) → p m ≡ true → r m ≡ true) → (es fs : List Entry)
    → every (λ (e : Entry). r e.step) fs ≡ true → every (λ (e : Entry). r e.step) (select p es ++ fs) ≡ true
every_selected p r f [] fs k = k
every_selected p r f (e ∷ es) fs k = go (p e.step) refl (every_selected p r f es fs k)
  where
    go : (b : Bool) → p e.step ≡ b → every (λ (x : Entry). r x.step) (select p es ++ fs) ≡ true
        → every (λ (x : Entry). r x.step) (pick b (e ∷ select p es) (select p es) ++ fs) ≡ true
    go true u ih = and_both _ _ (f e.step u) ih
    go false u ih = ih

rule_not_wish : (m : Step) → is_rule m ≡ true → is_wish m ≡ false
rule_not_wish (opening n) e = refl
rule_not_wish (rule c) e = refl
rule_not_wish (wish w c) e = absurd (false≢true e)
rule_not_wish (derive c hints) e = refl
rule_not_wish (core d) e = refl
rule_not_wish (judge a) e = refl

wish_not_rule : (m : Step) → is_wish m ≡ true → is_rule m ≡ false
wish_not_rule (opening n) e = refl
wish_not_rule (rule c) e = absurd (false≢true e)
wish_not_rule (wish w c) e = refl
wish_not_rule (derive c hints) e = refl
wish_not_rule (core d) e = refl
wish_not_rule (judge a) e = refl

or_left : (a b : Bool) → a ≡ true → (a || b) ≡ true
or_left a b e = rw e

or_right : (a b : Bool) → b ≡ true → (a || b) ≡ true
or_right true b e = refl
or_right false b e = e

pub reordered : Reordered
reordered n es s h =
    any_mixture n es s h (select is_rule es ++ select is_wish es)
    (every_selected is_rule (λ m. is_rule m || is_wish m) (λ m e. or_left (is_rule m) (is_wish m) e) es (select is_wish es)
    (rw (mathlib.Core.List.append-nil (select is_wish es)) at
    (every_selected is_wish (λ m. is_rule m || is_wish m) (λ m e. or_right (is_rule m) (is_wish m) e) es [] refl)))
    (rw (
      select-append is_rule (select is_rule es) (select is_wish es),
      select_same is_rule is_wish rule_not_wish es,
      select_other is_wish is_rule wish_not_rule es,
    ) (mathlib.Core.List.append-nil (select is_rule es)))
    (rw (
      select-append is_wish (select is_rule es) (select is_wish es),
      select_other is_rule is_wish rule_not_wish es,
      select_same is_wish is_rule wish_not_rule es,
    ))
