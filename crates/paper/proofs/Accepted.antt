-- What an accepted step says of its arguments, since no line of its table applies; and back, for derived clauses and cores.
use mathlib.Core.Path.{◌≡◌}
use mathlib.Core.Bool.{true, false, not, ◌||◌, ◌&&◌}
use mathlib.Core.List.{List, [], map}
use Prim.Native.Nat.{ℕ, ◌<◌, ◌≤◌}
use lib.Dec.{leb, ltb}
use lib.ListN.{length, get_or, length-map}
use borrow.Author.Tests.{ltb-false, leb-true, leb-false, le-ltb, lt-leb, not-false}
use Rattle.paper.specs.Sizes.{most_variables, most_weight, most_hints, wish_room, derived_room}
use Rattle.paper.specs.Clauses.{Clause, every, variable_twice}
use Rattle.paper.specs.Session.{Session, Wish, Hint, problem_literal, named_literal, hint_named, hint_clause}
use Rattle.paper.specs.Derivation.{shows}
use Rattle.paper.specs.Steps.{opening, rule, wish, derive, core, opened, full, core_form, members, accepted}
use Rattle.paper.proofs.Lists.{and_split, or_split, passed}

pub record Opens (s : Session) (n : ℕ) : Type 0 where
  pub closed : opened s ≡ false
  pub some : 1 ≤ n
  pub small : n ≤ most_variables

pub opens : (s : Session) (n : ℕ) → accepted s (opening n) ≡ true → Opens s n
opens s n e =
    let r12 = passed (opened s) _ e in
    let r14 = passed (not (leb 1 n && leb n most_variables)) _ r12.1 in
    let k = and_split (leb 1 n) (leb n most_variables) (not-false _ r14.0) in
    record { closed = r12.0; some = leb-true _ _ k.0; small = leb-true _ _ k.1 }

pub record RuleTaken (s : Session) (c : Clause) : Type 0 where
  pub begun : opened s ≡ true
  pub form : every (problem_literal s.sheet.variables) c ≡ true

pub rule_taken : (s : Session) (c : Clause) → accepted s (rule c) ≡ true → RuleTaken s c
rule_taken s c e =
    let r12 = passed (not (opened s)) _ e in
    let r16 = passed (ltb s.sheet.width.literals (length c)) _ r12.1 in
    let r17 = passed (not (every (problem_literal s.sheet.variables) c)) _ r16.1 in
    record { begun = not-false _ r12.0; form = not-false _ r17.0 }

pub record WishTaken (s : Session) (w : ℕ) (c : Clause) : Type 0 where
  pub begun : opened s ≡ true
  pub light : w ≤ most_weight
  pub form : every (problem_literal s.sheet.variables) c ≡ true
  pub few : length s.sheet.wishes < 512

pub wish_taken : (s : Session) (w : ℕ) (c : Clause) → accepted s (wish w c) ≡ true → WishTaken s w c
wish_taken s w c e =
    let r12 = passed (not (opened s)) _ e in
    let r15 = passed (not (leb 1 w && leb w most_weight)) _ r12.1 in
    let r16 = passed (ltb s.sheet.width.literals (length c)) _ r15.1 in
    let r17 = passed (not (every (problem_literal s.sheet.variables) c)) _ r16.1 in
    let r18 = passed (variable_twice c) _ r17.1 in
    let r23 = passed (full wish_room (map (λ (x : Wish). x.literals) s.sheet.wishes) c) _ r18.1 in
    let k : length (map (λ (x : Wish). x.literals) s.sheet.wishes) < 512
    = leb-false _ _ (or_split (leb 512 (length (map (λ (x : Wish). x.literals) s.sheet.wishes))) _ r23.0).0 in
    record {
      begun = not-false _ r12.0;
      light = leb-true _ _ (and_split (leb 1 w) _ (not-false _ r15.0)).1;
      form = not-false _ r17.0;
      few = rw (length-map s.sheet.wishes (λ (x : Wish). x.literals)) at k;
    }

pub record DeriveTaken (s : Session) (c : Clause) (hints : List Hint) : Type 0 where
  pub begun : opened s ≡ true
  pub short : length c ≤ s.sheet.width.literals
  pub named : every (named_literal s.sheet s.work) c ≡ true
  pub once : variable_twice c ≡ false
  pub few : ltb most_hints (length hints) ≡ false
  pub found : every (hint_named s.sheet s.work) hints ≡ true
  pub shown : shows c (map (hint_clause s.sheet s.work) hints) ≡ true
  pub room : full derived_room s.work.derived c ≡ false

pub derive_taken : (s : Session) (c : Clause) (hints : List Hint) → accepted s (derive c hints) ≡ true → DeriveTaken s c hints
derive_taken s c hints e =
    let r12 = passed (not (opened s)) _ e in
    let r16 = passed (ltb s.sheet.width.literals (length c)) _ r12.1 in
    let r17 = passed (not (every (named_literal s.sheet s.work) c)) _ r16.1 in
    let r18 = passed (variable_twice c) _ r17.1 in
    let r19 = passed (ltb most_hints (length hints) || not (every (hint_named s.sheet s.work) hints)) _ r18.1 in
    let r20 = passed (not (shows c (map (hint_clause s.sheet s.work) hints))) _ r19.1 in
    let r23 = passed (full derived_room s.work.derived c) _ r20.1 in
    let k = or_split (ltb most_hints (length hints)) _ r19.0 in
    record {
      begun = not-false _ r12.0;
      short = ltb-false _ _ r16.0;
      named = not-false _ r17.0;
      once = r18.0;
      few = k.0;
      found = not-false _ k.1;
      shown = not-false _ r20.0;
      room = r23.0;
    }

pub derive_takes : (s : Session) (c : Clause) (hints : List Hint) → DeriveTaken s c hints → accepted s (derive c hints) ≡ true
derive_takes s c hints t = rw (t.begun, le-ltb _ _ t.short, t.named, t.once, t.few, t.found, t.shown, t.room)

pub record CoreTaken (s : Session) (d : ℕ) : Type 0 where
  pub begun : opened s ≡ true
  pub there : d < length s.work.derived
  pub form : core_form s.sheet s.work (get_or s.work.derived d []) ≡ true
  pub room : (ltb 1 (length (members s.work d)) && leb s.sheet.width.counters (length s.work.counters)) ≡ false

pub core_taken : (s : Session) (d : ℕ) → accepted s (core d) ≡ true → CoreTaken s d
core_taken s d e =
    let r12 = passed (not (opened s)) _ e in
    let r21 = passed (leb (length s.work.derived) d) _ r12.1 in
    let r22 = passed (not (core_form s.sheet s.work (get_or s.work.derived d []))) _ r21.1 in
    let r23 = passed (ltb 1 (length (members s.work d)) && leb s.sheet.width.counters (length s.work.counters)) _ r22.1 in
    record { begun = not-false _ r12.0; there = leb-false _ _ r21.0; form = not-false _ r22.0; room = r23.0 }

pub core_takes : (s : Session) (d : ℕ) → CoreTaken s d → accepted s (core d) ≡ true
core_takes s d t = rw (t.begun, lt-leb _ _ t.there, t.form, t.room)
