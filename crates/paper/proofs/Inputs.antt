-- An input may come in blocks: the run over it is the run over the records that a block has whole, and then the run over what the
-- block leaves and all that follows.
use mathlib.Core.Path.{◌≡◌, refl, sym, ap, ap₂, ◌∙◌}
use mathlib.Core.Bool.{Bool, true, false, not, ◌&&◌, false≢true}
use mathlib.Core.List.{List, [], ◌∷◌, ◌++◌}
use Prim.Native.Nat.{ℕ, zero, suc, ◌+◌, ◌-◌, ◌≤◌}
use native.Mathlib.Omega.{arith}
use lib.Dec.{leb, ltb}
use lib.ListN.{length, take, drop, length-append, length-drop}
use lib.Seq.{length-take-le, take-append-le, drop-append-le, drop-drop}
use borrow.Author.Tests.{ltb-false, leb-true, le-ltb, le-leb, not-false}
use Rattle.paper.specs.Clauses.{pick}
use Rattle.paper.specs.Session.{Session}
use Rattle.paper.specs.Runs.{Line}
use Rattle.paper.specs.Records.{Record, number, record_next}
use Rattle.paper.specs.Inputs.{length_in, front, record_in, onFront, records_in, bytes_of, record_line, record_lines, after, end_lines, run_from}
use Rattle.paper.specs.Promises.{InBlocks, EndsWrong, EndsShort}
use Rattle.paper.specs.declared.Front.{Front}
use Rattle.paper.specs.declared.Front.TheVariants.{Short, Wrong, Whole}
use Rattle.paper.proofs.Lists.{and_split}

-- ── A whole record at the front ──

pub record Stands (bytes : List ℕ) (n : ℕ) : Type 0 where
  pub long : 4 + n ≤ length bytes
  pub least : 2 ≤ n
  pub most : n ≤ 4096
  pub said : length_in bytes ≡ n

chosen : (a b c : Bool) (k n : ℕ) → pick a Short (pick b Wrong (pick c Short (Whole k))) ≡ Whole n
    → (a ≡ false) × (b ≡ false) × (c ≡ false) × (k ≡ n)
chosen true b c k n e = let z : ◌≡◌ {A = ℕ} 0 1 = ap (λ (f : Front). onFront f 0 0 (λ k. 1)) e in absurd (omega arith)
chosen false true c k n e = let z : ◌≡◌ {A = ℕ} 0 1 = ap (λ (f : Front). onFront f 0 0 (λ k. 1)) e in absurd (omega arith)
chosen false false true k n e = let z : ◌≡◌ {A = ℕ} 0 1 = ap (λ (f : Front). onFront f 0 0 (λ k. 1)) e in absurd (omega arith)
chosen false false false k n e = (refl, refl, refl, ap (λ (f : Front). onFront f 0 0 (λ k. k)) e)

pub stands : (bytes : List ℕ) (n : ℕ) → front bytes ≡ Whole n → Stands bytes n
stands bytes n e =
    let k = chosen (ltb (length bytes) 4) (not (leb 2 (length_in bytes) && leb (length_in bytes) 4096)) (ltb (length bytes) (4 + length_in bytes)) _ _ e in
    let size = and_split (leb 2 (length_in bytes)) (leb (length_in bytes) 4096) (not-false _ k.1) in
    let enough = ltb-false _ _ k.2 in
    record {
      long = rw (← k.3) enough;
      least = rw (← k.3) (leb-true _ _ size.0);
      most = rw (← k.3) (leb-true _ _ size.1);
      said = k.3;
    }

pub whole : (bytes : List ℕ) (n : ℕ) → Stands bytes n → front bytes ≡ Whole n
whole bytes n w =
    rw (w.said, le-ltb (length bytes) 4 (omega (arith, w.long)), le-leb 2 n w.least, le-leb n 4096 w.most, le-ltb (length bytes) (4 + n) w.long)

-- Its bytes behind the length are kind and payload.
pub payload_long : (bytes : List ℕ) (n : ℕ) → Stands bytes n → length (record_in n bytes).payload ≡ n - 2
payload_long bytes n w =
    length-take-le (n - 2) (drop 6 bytes) (rw (length-drop 6 bytes) (omega (arith, w.long, w.least)))

pub behind : (bytes : List ℕ) (n : ℕ) (rs : List Record) → Stands bytes n
    → drop (bytes_of (record_in n bytes ∷ rs)) bytes ≡ drop (bytes_of rs) (drop (4 + n) bytes)
behind bytes n rs w =
    let all : bytes_of (record_in n bytes ∷ rs) ≡ 4 + n + bytes_of rs = omega (arith, payload_long bytes n w, w.least) in
    ap (λ k. drop k bytes) all ∙ sym (drop-drop (bytes_of rs) (4 + n) bytes)

-- ── A run does not depend on the bound on its records ──

spare_at : (f g : ℕ) (bytes : List ℕ) (x : Front) → front bytes ≡ x → length bytes ≤ suc f → length bytes ≤ suc g
    → ((left : List ℕ) → length left ≤ f → length left ≤ g → records_in f left ≡ records_in g left)
    → onFront x [] [] (λ n. record_in n bytes ∷ records_in f (drop (4 + n) bytes))
    ≡ onFront x [] [] (λ n. record_in n bytes ∷ records_in g (drop (4 + n) bytes))
spare_at f g bytes Short e h k same = refl
spare_at f g bytes Wrong e h k same = refl
spare_at f g bytes (Whole n) e h k same =
    let left = length-drop (4 + n) bytes in
    ap (λ (rs : List Record). record_in n bytes ∷ rs) (same (drop (4 + n) bytes) (omega arith) (omega arith))

spare : (f g : ℕ) (bytes : List ℕ) → length bytes ≤ f → length bytes ≤ g → records_in f bytes ≡ records_in g bytes
spare zero zero bytes h k = refl
spare zero (suc g) [] h k = refl
spare zero (suc g) (b ∷ bytes) h k = absurd (omega arith)
spare (suc f) zero [] h k = refl
spare (suc f) zero (b ∷ bytes) h k = absurd (omega arith)
spare (suc f) (suc g) bytes h k = spare_at f g bytes (front bytes) refl h k (spare f g)

-- ── One record of a run ──

first_record : (bytes : List ℕ) (n : ℕ) → Stands bytes n
    → records_in (length bytes) bytes ≡ record_in n bytes ∷ records_in (length (drop (4 + n) bytes)) (drop (4 + n) bytes)
first_record bytes n w =
    let left = length-drop (4 + n) bytes in
    spare (length bytes) (suc (length bytes)) bytes (omega arith) (omega arith)
    ∙ ap (λ (x : Front). onFront x [] [] (λ k. record_in k bytes ∷ records_in (length bytes) (drop (4 + k) bytes))) (whole bytes n w)
    ∙ ap (λ (rs : List Record). record_in n bytes ∷ rs) (spare (length bytes) (length (drop (4 + n) bytes)) (drop (4 + n) bytes) (omega arith) (omega arith))

abbrev run_over : ℕ → Session → List ℕ → List Record → List Line
run_over place s bytes rs = record_lines place s rs ++ end_lines (place + length rs) (drop (bytes_of rs) bytes)

run_whole : (place : ℕ) (s : Session) (bytes : List ℕ) (n : ℕ) → Stands bytes n
    → run_from place s bytes
    ≡ record_line place s (record_in n bytes) ∷ run_from (suc place) (record_next s (record_in n bytes)) (drop (4 + n) bytes)
run_whole place s bytes n w =
    let rs = records_in (length (drop (4 + n) bytes)) (drop (4 + n) bytes) in
    ap (run_over place s bytes) (first_record bytes n w)
    ∙ ap (λ (ls : List Line). record_line place s (record_in n bytes) ∷ (record_lines (suc place) (record_next s (record_in n bytes)) rs ++ ls))
    (ap₂ end_lines (omega arith) (behind bytes n rs w))

run_none : (place : ℕ) (s : Session) (bytes : List ℕ) → records_in (length bytes) bytes ≡ [] → run_from place s bytes ≡ end_lines place bytes
run_none place s bytes e =
    ap (run_over place s bytes) e ∙ ap (λ k. end_lines k bytes) (omega arith)

-- ── Blocks ──

module _ (block rest : List ℕ) (n : ℕ) (w : Stands block n) where
  stands_on : Stands (block ++ rest) n
  stands_on = record {
    long = rw (length-append block rest) (omega (arith, w.long));
    least = w.least;
    most = w.most;
    said = ap number (take-append-le 4 block rest (omega (arith, w.long))) ∙ w.said;
  }

  same_record : record_in n (block ++ rest) ≡ record_in n block
  same_record =
      let four = drop-append-le 4 block rest (omega (arith, w.long)) in
      let six = drop-append-le 6 block rest (omega (arith, w.long, w.least)) in
      let left4 = length-drop 4 block in
      let left6 = length-drop 6 block in
      ap₂ (λ kind payload. record { kind = number kind; payload = payload })
      (ap (take 2) four ∙ take-append-le 2 (drop 4 block) rest (omega (arith, w.long, w.least)))
      (ap (take (n - 2)) six ∙ take-append-le (n - 2) (drop 6 block) rest (omega (arith, w.long, w.least)))

  same_left : drop (4 + n) (block ++ rest) ≡ drop (4 + n) block ++ rest
  same_left = drop-append-le (4 + n) block rest w.long

  run_block : (place : ℕ) (s : Session)
      → run_from place s (block ++ rest)
      ≡ record_line place s (record_in n block) ∷ run_from (suc place) (record_next s (record_in n block)) (drop (4 + n) block ++ rest)
  run_block place s =
      run_whole place s (block ++ rest) n stands_on
      ∙ ap₂ (λ (r : Record) (left : List ℕ). record_line place s r ∷ run_from (suc place) (record_next s r) left) same_record same_left

abbrev Cut : ℕ → Session → List ℕ → List ℕ → List Record → Type 0
Cut place s block rest rs =
    run_from place s (block ++ rest) ≡ record_lines place s rs ++ run_from (place + length rs) (after s rs) (drop (bytes_of rs) block ++ rest)

cut_none : (place : ℕ) (s : Session) (block rest : List ℕ) → Cut place s block rest []
cut_none place s block rest = ap (λ k. run_from k s (block ++ rest)) (omega arith)

cut_at : (most place : ℕ) (s : Session) (block rest : List ℕ) (x : Front) → front block ≡ x
    → ((place' : ℕ) (s' : Session) (block' : List ℕ) → Cut place' s' block' rest (records_in most block'))
    → Cut place s block rest (onFront x [] [] (λ n. record_in n block ∷ records_in most (drop (4 + n) block)))
cut_at most place s block rest Short e later = cut_none place s block rest
cut_at most place s block rest Wrong e later = cut_none place s block rest
cut_at most place s block rest (Whole n) e later =
    let w = stands block n e in
    let r = record_in n block in
    let rs = records_in most (drop (4 + n) block) in
    run_block block rest n w place s
    ∙ ap (λ (ls : List Line). record_line place s r ∷ ls) (later (suc place) (record_next s r) (drop (4 + n) block))
    ∙ ap (λ (ls : List Line). record_line place s r ∷ (record_lines (suc place) (record_next s r) rs ++ ls))
    (ap₂ (λ (k : ℕ) (left : List ℕ). run_from k (after (record_next s r) rs) (left ++ rest)) (omega arith) (sym (behind block n rs w)))

pub in_blocks : InBlocks
in_blocks zero place s block rest = cut_none place s block rest
in_blocks (suc most) place s block rest = cut_at most place s block rest (front block) refl (λ place' s' block'. in_blocks most place' s' block' rest)

-- ── Ends ──

pub none_at : (most : ℕ) (bytes : List ℕ) (x : Front) → front bytes ≡ x → onFront x true true (λ n. false) ≡ true → records_in most bytes ≡ []
none_at zero bytes x e h = refl
none_at (suc most) bytes Short e h = ap (λ (f : Front). onFront f [] [] (λ n. record_in n bytes ∷ records_in most (drop (4 + n) bytes))) e
none_at (suc most) bytes Wrong e h = ap (λ (f : Front). onFront f [] [] (λ n. record_in n bytes ∷ records_in most (drop (4 + n) bytes))) e
none_at (suc most) bytes (Whole n) e h = absurd (false≢true h)

pub ends_short : EndsShort
ends_short place s bytes e = run_none place s bytes (none_at (length bytes) bytes Short e refl)

refused-length : (a b c : Bool) (k : ℕ) → pick a Short (pick b Wrong (pick c Short (Whole k))) ≡ Wrong → (a ≡ false) × (b ≡ true)
refused-length true b c k e = let z : ◌≡◌ {A = ℕ} 0 1 = ap (λ (f : Front). onFront f 0 1 (λ k. 0)) e in absurd (omega arith)
refused-length false true c k e = (refl, refl)
refused-length false false true k e = let z : ◌≡◌ {A = ℕ} 0 1 = ap (λ (f : Front). onFront f 0 1 (λ k. 0)) e in absurd (omega arith)
refused-length false false false k e = let z : ◌≡◌ {A = ℕ} 0 1 = ap (λ (f : Front). onFront f 0 1 (λ k. 0)) e in absurd (omega arith)

-- A wrong length is wrong whatever follows.
wrong_on : (bytes rest : List ℕ) → front bytes ≡ Wrong → front (bytes ++ rest) ≡ Wrong
wrong_on bytes rest e =
    let k = refused-length (ltb (length bytes) 4) (not (leb 2 (length_in bytes) && leb (length_in bytes) 4096)) (ltb (length bytes) (4 + length_in bytes)) _ e in
    let enough : 4 ≤ length bytes = ltb-false _ _ k.0 in
    let longer : 4 ≤ length (bytes ++ rest) = rw (length-append bytes rest) (omega (arith, enough)) in
    rw (take-append-le 4 bytes rest enough, le-ltb (length (bytes ++ rest)) 4 longer, k.1)

pub ends_wrong : EndsWrong
ends_wrong place s [] rest e = let z : ◌≡◌ {A = ℕ} 0 1 = ap (λ (f : Front). onFront f 0 1 (λ k. 0)) e in absurd (omega arith)
ends_wrong place s (b ∷ bytes) rest e =
    run_none place s ((b ∷ bytes) ++ rest) (none_at (length ((b ∷ bytes) ++ rest)) ((b ∷ bytes) ++ rest) Wrong (wrong_on (b ∷ bytes) rest e) refl)
