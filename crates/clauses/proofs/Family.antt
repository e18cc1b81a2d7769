-- Rooms that hold a family: their lengths, the clause at a number, one clause more, and that they hold no other family.
use mathlib.Core.Path.{◌≡◌, refl, ap, ◌∙◌, sym}
use mathlib.Core.Bool.{Bool, true, false, or-true}
use mathlib.Core.List.{List, [], ◌∷◌, ◌++◌, append_assoc, append-nil}
use Prim.Native.Nat.{ℕ, zero, suc, ◌+◌, ◌-◌, ◌^◌, ◌<◌, ◌≤◌}
use native.Mathlib.Numerals.{add-one}
use native.Mathlib.Omega.{arith}
use lib.Dec.{ltb}
use lib.IntN.{ℤ, pos}
use lib.ListN.{length, take, drop, get_or, set, replicate, length-append, length-replicate, get_or-append, get_or-eq_default}
use lib.Seq.{paste, take-append_seam, drop-append-add, take_at, set_at, take-length, ext_get_or}
use borrow.Author.Tests.{le-leb, lt-leb, lt-ltb, le-ltb, ltb-true, ltb-false}
use Rattle.slices.specs.Slices.{part_of}
use Rattle.slices.proofs.Parts.{part_is}
use Rattle.paper.specs.Clauses.{Clause, literals_in}
use Rattle.paper.specs.Steps.{full}
use Rattle.clauses.specs.Family.{flat, ends_from, flat_room, ends_room, Holds, room_of, start_in, Appended}
use Rattle.paper.proofs.Lists.{getD-right}
use Rattle.clauses.proofs.Lists.{drop-replicate, get_d_same, unlike}

-- ── The rooms of a family ──

length_flat : (family : List Clause) → length (flat family) ≡ literals_in family
unfolding flat
length_flat [] = refl
length_flat (c ∷ cs) = rw (length-append, length_flat cs)

length_ends_from : (start : ℕ) (family : List Clause) → length (ends_from start family) ≡ length family
unfolding ends_from
length_ends_from start [] = refl
length_ends_from start (c ∷ cs) = ap suc (length_ends_from (start + length c) cs)

-- Zeroed rooms hold no clause.
pub holds_none : (size most : ℕ) → Holds size most (replicate size (pos 0)) (replicate most 0) 0 []
unfolding flat ends_from flat_room ends_room
holds_none size most =
    let s : size - 0 ≡ size = omega arith in
    let m : most - 0 ≡ most = omega arith in
    record { literals_are = rw s; ends_are = rw m; count_is = refl; fits = omega arith; few = omega arith }

-- ── One clause more ──

flat_snoc : (family : List Clause) (c : Clause) → flat (family ++ (c ∷ [])) ≡ flat family ++ c
unfolding flat
flat_snoc [] c = append-nil c
flat_snoc (x ∷ xs) c = rw (flat_snoc xs c, append_assoc)

literals_snoc : (family : List Clause) (c : Clause) → literals_in (family ++ (c ∷ [])) ≡ literals_in family + length c
literals_snoc [] c = omega arith
literals_snoc (x ∷ xs) c = omega (arith, literals_snoc xs c)

ends_snoc : (start : ℕ) (family : List Clause) (c : Clause)
    → ends_from start (family ++ (c ∷ [])) ≡ ends_from start family ++ ((start + literals_in family + length c) ∷ [])
unfolding ends_from
ends_snoc start [] c = let e : start + length c ≡ start + 0 + length c = omega arith in rw e
ends_snoc start (x ∷ xs) c =
    let e : start + length x + literals_in xs + length c ≡ start + (length x + literals_in xs) + length c = omega arith in
    rw (ends_snoc (start + length x) xs c, e)

flat_rest : (size : ℕ) (family : List Clause) (n : ℕ)
    → drop (literals_in family + n) (flat family ++ replicate (size - literals_in family) (pos 0))
    ≡ replicate (size - literals_in family - n) (pos 0)
flat_rest size family n = rw (← length_flat family, drop-append-add, drop-replicate)

flat_more : (size : ℕ) (family : List Clause) (c : Clause)
    → paste (flat_room size family) (literals_in family) c (length c) ≡ flat_room size (family ++ (c ∷ []))
unfolding flat_room
flat_more size family c =
    let more = literals_snoc family c in
    let left : size - literals_in family - length c ≡ size - literals_in (family ++ (c ∷ [])) = omega (arith, more) in
    let before = take_at (flat family) (replicate (size - literals_in family) (pos 0)) (literals_in family) (length_flat family) in
    rw (before, flat_rest size family (length c), left, take-length c, flat_snoc family c)

ends_more : (most : ℕ) (family : List Clause) (c : Clause) → length family < most
    → set (ends_room most family) (length family) (literals_in family + length c) ≡ ends_room most (family ++ (c ∷ []))
unfolding ends_room
ends_more most family c h =
    let left : most - length family ≡ suc (most - length (family ++ (c ∷ []))) = omega (arith, length-append family (c ∷ [])) in
    let none : literals_in family + length c ≡ 0 + literals_in family + length c = omega arith in
    rw (left, set_at _ _ _ _ _ (length_ends_from 0 family), ends_snoc 0 family c, append_assoc, ← none)

-- ── The clause at a number ──

length_flat_room : (size : ℕ) (family : List Clause) → literals_in family ≤ size → length (flat_room size family) ≡ size
unfolding flat_room
length_flat_room size family h = simp (length-append, length-replicate, length_flat) (omega arith)

length_ends_room : (most : ℕ) (family : List Clause) → length family ≤ most → length (ends_room most family) ≡ most
unfolding ends_room
length_ends_room most family h = simp (length-append, length-replicate, length_ends_from) (omega arith)

end_at : (start : ℕ) (family : List Clause) (i : ℕ) → i < length family
    → get_or (ends_from start family) i 0 ≡ start + literals_in (take (suc i) family)
unfolding ends_from
end_at start [] i h = absurd (omega arith)
end_at start (c ∷ cs) zero h = omega arith
end_at start (c ∷ cs) (suc i) h = omega (arith, end_at (start + length c) cs i (omega arith))

start_room : (most : ℕ) (family : List Clause) (i : ℕ) → i ≤ length family
    → start_in (ends_room most family) i ≡ literals_in (take i family)
unfolding ends_room
start_room most family zero h = refl
start_room most family (suc i) h =
    get_or-append (ends_from 0 family) (replicate (most - length family) 0) 0 i (omega (arith, length_ends_from 0 family))
    ∙ end_at 0 family i (omega arith) ∙ omega arith

-- Past the last clause the ends are zeros.
end_past : (most : ℕ) (family : List Clause) (i : ℕ) → length family ≤ i → get_or (ends_room most family) i 0 ≡ 0
unfolding ends_room
end_past most family i h =
    getD-right (ends_from 0 family) (replicate (most - length family) 0) i 0 (omega (arith, length_ends_from 0 family))
    ∙ get_d_same 0 (most - length family) (i - length (ends_from 0 family))

literals-take : (family : List Clause) (i : ℕ) → i < length family
    → literals_in (take (suc i) family) ≡ literals_in (take i family) + length (get_or family i [])
literals-take [] i h = absurd (omega arith)
literals-take (c ∷ cs) zero h = omega arith
literals-take (c ∷ cs) (suc i) h = omega (arith, literals-take cs i (omega arith))

literals_within : (family : List Clause) (i : ℕ) → literals_in (take i family) ≤ literals_in family
literals_within [] zero = omega arith
literals_within [] (suc i) = omega arith
literals_within (c ∷ cs) zero = omega arith
literals_within (c ∷ cs) (suc i) = omega (arith, literals_within cs i)

flat_part : (family : List Clause) (rest : List ℤ) (i : ℕ) → i < length family
    → take (length (get_or family i [])) (drop (literals_in (take i family)) (flat family ++ rest)) ≡ get_or family i []
unfolding flat
flat_part [] rest i h = absurd (omega arith)
flat_part (c ∷ cs) rest zero h = rw append_assoc (take-append_seam c (flat cs ++ rest))
flat_part (c ∷ cs) rest (suc i) h = rw (append_assoc, drop-append-add) (flat_part cs rest i (omega arith))

module _
    {size most : ℕ} {literals : List ℤ} {ends : List ℕ} {count : ℕ} {family : List Clause}
    (H : Holds size most literals ends count family)
  where
    pub length_literals : length literals ≡ size
    length_literals = ap length H.literals_are ∙ length_flat_room size family H.fits

    pub length_ends : length ends ≡ most
    length_ends = ap length H.ends_are ∙ length_ends_room most family H.few

    start_is : (i : ℕ) → i ≤ length family → start_in ends i ≡ literals_in (take i family)
    start_is i h = rw H.ends_are (start_room most family i h)

    pub absent : (i : ℕ) → count ≤ i → get_or family i [] ≡ []
    absent i h = get_or-eq_default family [] (omega (arith, H.count_is))

    start_next : start_in ends count ≡ literals_in family
    start_next = rw H.count_is (start_is (length family) (omega arith) ∙ ap literals_in (take-length family))

    sized : (i : ℕ) → i < count → start_in ends (suc i) ≡ start_in ends i + length (get_or family i [])
    sized i h =
        let g : i < length family = omega (arith, H.count_is) in
        omega (arith, start_is i (omega arith), start_is (suc i) g, literals-take family i g)

    module _ (i start end : ℕ) (begins : start ≡ start_in ends i) (ends_at : end ≡ start_in ends (i + 1)) where
      end_is : end ≡ start_in ends (suc i)
      end_is = ends_at ∙ ap (start_in ends) (add-one i)

      pub found : i < count → part_of literals start end ≡ get_or family i []
      unfolding flat_room
      found h =
          let g : i < length family = omega (arith, H.count_is) in
          let at : start ≡ literals_in (take i family) = begins ∙ start_is i (omega arith) in
          let many : end - start ≡ length (get_or family i []) = omega (arith, sized i h, end_is) in
          let a : start ≤ end = omega (arith, sized i h, end_is) in
          let next = start_is (suc i) g in
          let b : end ≤ length literals = omega (arith, end_is, next, literals_within family (suc i), length_literals, H.fits) in
          rw (part_is literals start end a b, many, at, H.literals_are) (flat_part family (replicate (size - literals_in family) (pos 0)) i g)

      pub size_is : end - start ≡ length (get_or family i [])
      size_is = go (ltb i count) refl
        where
          go : (b : Bool) → ltb i count ≡ b → end - start ≡ length (get_or family i [])
          go true e = omega (arith, sized i (ltb-true i count e), end_is)
          go false e =
              let past : count ≤ i = ltb-false i count e in
              let none : start_in ends (suc i) ≡ 0 = rw H.ends_are (end_past most family i (omega (arith, H.count_is))) in
              rw (absent i past) (omega (arith, end_is))

    crowded : (c : Clause) → length ends ≤ count → full (room_of size most) family c ≡ true
    crowded c h = simp (le-leb most (length family) (omega (arith, length_ends, H.count_is)))

    overlong : (c : Clause) → length literals < start_in ends count + length c
        → full (room_of size most) family c ≡ true
    overlong c h = simp (lt-ltb size (literals_in family + length c) (omega (arith, length_literals, start_next)), or-true)

    roomy : (c : Clause) → count < length ends → start_in ends count + length c ≤ length literals
        → full (room_of size most) family c ≡ false
    roomy c h g =
        simp (
          lt-leb most (length family) (omega (arith, length_ends, H.count_is)),
          le-ltb size (literals_in family + length c) (omega (arith, length_literals, start_next)),
        )

    holds_more : (c : Clause) → count < length ends → start_in ends count + length c ≤ length literals
        → Holds size most (paste literals (start_in ends count) c (length c)) (set ends count (start_in ends count + length c))
        (count + 1) (family ++ (c ∷ []))
    holds_more c h g =
        let m : length family < most = omega (arith, length_ends, H.count_is) in
        record {
          literals_are = rw (start_next, H.literals_are) (flat_more size family c);
          ends_are = rw (start_next, H.ends_are, H.count_is) (ends_more most family c m);
          count_is = rw (H.count_is, length-append);
          fits = omega (arith, literals_snoc family c, length_literals, start_next);
          few = omega (arith, length-append family (c ∷ []));
        }

-- The rooms hold one family at most.
pub holds_unique : {size most size' most' : ℕ} {literals : List ℤ} {ends : List ℕ} {count : ℕ} {family family' : List Clause}
    → Holds size most literals ends count family → Holds size' most' literals ends count family' → family ≡ family'
holds_unique H H' =
    ext_get_or [] _ _ (sym H.count_is ∙ H'.count_is)
    (λ i h. sym (found H i _ _ refl refl (rw H.count_is h)) ∙ found H' i _ _ refl refl (rw H.count_is h))

-- ── What appending leaves ──

module _ (literals : List ℤ) (ends : List ℕ) (count : ℕ) (c : Clause) where
  -- A clause that is refused where the family is full.
  kept : ((size most : ℕ) (family : List Clause) → size < 2 ^ 32 → Holds size most literals ends count family
      → full (room_of size most) family c ≡ true)
      → Appended literals ends count c false literals ends
  kept why =
      record {
        refused = λ _. (refl, refl);
        answer = λ size most family small H. rw (why size most family small H);
        stored = λ size most family H e. unlike e;
      }

  pub many : length ends ≤ count → Appended literals ends count c false literals ends
  many h = kept (λ size most family small H. crowded H c h)

  pub long : length literals < start_in ends count + length c → Appended literals ends count c false literals ends
  long h = kept (λ size most family small H. overlong H c h)

  pub uncounted : 4294967295 < start_in ends count + length c → start_in ends count + length c ≤ length literals
      → Appended literals ends count c false literals ends
  uncounted h g = kept (λ size most family small H. absurd (omega (arith, length_literals H)))

  pub taken : count < length ends → start_in ends count + length c ≤ length literals
      → Appended literals ends count c true (paste literals (start_in ends count) c (length c))
      (set ends count (start_in ends count + length c))
  taken h g =
      record {
        refused = λ e. unlike (sym e);
        answer = λ size most family small H. rw (roomy H c h g);
        stored = λ size most family H e. holds_more H c h g;
      }

-- After a refusal the rooms hold what they held.
pub refused_holds : {size most count : ℕ} {literals literals' : List ℤ} {ends ends' : List ℕ} {family : List Clause} {c : Clause}
    → Appended literals ends count c false literals' ends' → Holds size most literals ends count family
    → Holds size most literals' ends' count family
refused_holds A H = rw ((A.refused refl).0, (A.refused refl).1) H
