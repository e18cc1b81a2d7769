-- What is proved of the description, one statement a promise and no proofs; proofs/Promised.antt says where each is proved. A
-- session is one that accepted steps have reached from the fresh one, and nothing else is assumed of it.
use Rattle.std.specs.Prelude.{◌≡◌, Bool, true, false, ◌||◌, ◌&&◌, List, [], ◌∷◌, ◌++◌, map, ℕ, ◌+◌, ◌-◌, ◌/◌, ◌<◌, ◌≤◌, ltb, length, take, drop, get_or}
use Rattle.paper.specs.Sizes.{numbers_end}
use Rattle.paper.specs.Clauses.{Truth, clause_true, every}
use Rattle.paper.specs.Counters.{Tree, node, tree_of, variables, clauses, own_clauses, all_clauses, clause_at, variables_of, clauses_of}
use Rattle.paper.specs.Session.{Session, Hint, fresh, of_counter, remaining, hint_named, hint_clause}
use Rattle.paper.specs.Truth.{meets, cost, truth, weight_on, all_weights}
use Rattle.paper.specs.Answers.{Refusal, numbers, clear}
use Rattle.paper.specs.Steps.{Step, opening, derive, judge, refusals, reply, effect, accepted, answer, next}
use Rattle.paper.specs.Runs.{Entry, Runs, Reached, select, is_rule, is_wish, is_work, lines_from}
use Rattle.paper.specs.Inputs.{front, records_in, bytes_of, record_lines, after, end_line, end_lines, run_from, run, line_text}
use Rattle.paper.specs.Worked.{input, input_bytes, line, computed, printed}
use Rattle.paper.specs.TextEdges.{edges_computed, edges_stated}
use Rattle.paper.specs.declared.Answer.TheVariants.{Opened, Best}
use Rattle.paper.specs.declared.Front.TheVariants.{Short, Wrong}

-- ── Demand 1, and demand 2's last sentence ──

-- A step is accepted exactly when no refusal of its table applies, and then has the table's answer and effect. Else the first
-- line that applies gives the answer, and the session stays.
abbrev pub Decided : Type 0
Decided =
    (s : Session) (m : Step)
    → (clear (refusals s m) ≡ true → (answer s m ≡ reply s m) × (next s m ≡ effect s m))
    × ((above below : List Refusal) (r : Refusal) → refusals s m ≡ above ++ (r ∷ below) → clear above ≡ true → r.applies ≡ true
    → (accepted s m ≡ false) × (answer s m ≡ r.answer) × (next s m ≡ s))

-- Each number is below all that follow it.
abbrev pub rising : List ℕ → Bool
rising [] = true
rising (x ∷ xs) = every (ltb x) xs && rising xs

-- A table's numbers rise, so its first line that applies is the lowest; and no refusal looks like an acceptance.
abbrev pub LowestFirst : Type 0
LowestFirst =
    (s : Session) (m : Step)
    → (rising (map (λ (r : Refusal). (numbers r.answer).number) (refusals s m)) ≡ true)
    × (every (λ (r : Refusal). ltb 10 (numbers r.answer).number) (refusals s m) ≡ true)
    × ((numbers (reply s m)).number ≤ 1)

-- ── The counter, once over its inputs ──

-- A counter is its halves under a node.
abbrev pub Halves : Type 0
Halves = (xs : List ℕ) → 1 < length xs → tree_of xs ≡ node (tree_of (take (length xs / 2) xs)) (tree_of (drop (length xs / 2) xs))

-- Its variables and clauses depend on the number of its inputs alone.
abbrev pub ByInputs : Type 0
ByInputs = (xs : List ℕ) → (variables (tree_of xs) ≡ variables_of (length xs)) × (clauses (tree_of xs) ≡ clauses_of (length xs))

-- The rule of the two tables.
abbrev pub TableRule : Type 0
TableRule =
    (m : ℕ) → 1 < m
    → (variables_of m ≡ m + (variables_of (m / 2) + variables_of (m - m / 2)))
    × (clauses_of m ≡ own_clauses (m / 2) (m - m / 2) + (clauses_of (m / 2) + clauses_of (m - m / 2)))

-- The clauses in the listed order are the clauses by number.
abbrev pub Listed : Type 0
Listed =
    (x : Tree) (start : ℕ)
    → (length (all_clauses x start) ≡ clauses x) × ((i : ℕ) → get_or (all_clauses x start) i [] ≡ clause_at x start i)

-- Every clause of every counter is true of every arrangement, whether it meets the rules or not.
abbrev pub CountersTrue : Type 0
CountersTrue =
    (s : Session) → Reached s → (a : Truth) (c i : ℕ) → hint_named s.sheet s.work (of_counter c i) ≡ true
    → clause_true (truth s.sheet s.work a) (hint_clause s.sheet s.work (of_counter c i)) ≡ true

-- ── Demand 2 ──

-- Every derived clause is true of every arrangement that meets the rules.
abbrev pub DerivedTrue : Type 0
DerivedTrue =
    (s : Session) → Reached s → (a : Truth) → meets s.sheet a ≡ true
    → every (clause_true (truth s.sheet s.work a)) s.work.derived ≡ true

-- Where the empty clause is accepted as a derived clause, no arrangement meets the rules.
abbrev pub EmptyClause : Type 0
EmptyClause =
    (s : Session) → Reached s → (hints : List Hint) → accepted s (derive [] hints) ≡ true
    → (a : Truth) → meets s.sheet a ≡ false

-- An arrangement called best meets the rules, has the cost that is given, and has no cheaper rival.
abbrev pub NoCheaper : Type 0
NoCheaper =
    (s : Session) → Reached s → (a : Truth) (k bound : ℕ) → answer s (judge a) ≡ Best k bound
    → (meets s.sheet a ≡ true) × (cost s.sheet a ≡ k) × (s.work.bound ≡ bound)
    × ((b : Truth) → meets s.sheet b ≡ true → cost s.sheet a ≤ cost s.sheet b)

-- ── Demand 3 ──

abbrev pub opened_with : ℕ → Entry
opened_with n = record { step = opening n; answer = Opened n }

-- The rules and wishes of a run first, mixed in any way that keeps each kind's order, then its derived clauses and cores in the
-- one order that they had: all are accepted again, with the same answers, and the sessions end equal.
abbrev pub AnyMixture : Type 0
AnyMixture =
    (n : ℕ) (es : List Entry) (s : Session) → Runs fresh (opened_with n ∷ es) s
    → (first : List Entry) → every (λ (e : Entry). is_rule e.step || is_wish e.step) first ≡ true
    → select is_rule first ≡ select is_rule es → select is_wish first ≡ select is_wish es
    → Runs fresh (opened_with n ∷ (first ++ select is_work es)) s

-- The same for the order that the demand names: rules, then wishes, then the work.
abbrev pub Reordered : Type 0
Reordered =
    (n : ℕ) (es : List Entry) (s : Session) → Runs fresh (opened_with n ∷ es) s
    → Runs fresh (opened_with n ∷ ((select is_rule es ++ select is_wish es) ++ select is_work es)) s

-- The cost of an arrangement that meets the rules is the bound plus the remaining weight on the variables that are true of it. The
-- sum is over variable numbers, so each counts once; only wish variables and counter outputs have weight.
abbrev pub CostLaw : Type 0
CostLaw =
    (s : Session) → Reached s → (a : Truth) → meets s.sheet a ≡ true
    → cost s.sheet a
    ≡ s.work.bound + weight_on (truth s.sheet s.work a) (numbers_end s.sheet.width) (remaining s.sheet s.work)

-- The bound and all remaining weights together are the summed weight of the wishes.
abbrev pub TotalLaw : Type 0
TotalLaw =
    (s : Session) → Reached s
    → (s.work.bound + weight_on (λ v. true) (numbers_end s.sheet.width) (remaining s.sheet s.work) ≡ all_weights s.sheet.wishes)
    × (s.work.bound ≤ 512000000)

-- No accepted step moves a clause that a hint could name before it.
abbrev pub Unmoved : Type 0
Unmoved =
    (s : Session) → Reached s → (m : Step) (h : Hint) → hint_named s.sheet s.work h ≡ true
    → (hint_named (next s m).sheet (next s m).work h ≡ true)
    × (hint_clause (next s m).sheet (next s m).work h ≡ hint_clause s.sheet s.work h)

-- ── Inputs ──

-- However an input is cut, the records that stand whole in its first part have the run's first lines, and the run goes on behind
-- them, with the session and the place after them.
abbrev pub InBlocks : Type 0
InBlocks =
    (most place : ℕ) (s : Session) (block rest : List ℕ)
    → run_from place s (block ++ rest)
    ≡ record_lines place s (records_in most block)
    ++ run_from (place + length (records_in most block)) (after s (records_in most block)) (drop (bytes_of (records_in most block)) block ++ rest)

-- At a length that no record has the run ends with 10, whatever follows.
abbrev pub EndsWrong : Type 0
EndsWrong =
    (place : ℕ) (s : Session) (bytes rest : List ℕ) → front bytes ≡ Wrong → run_from place s (bytes ++ rest) ≡ end_line place ∷ []

-- Where an input ends and no whole record is left, the run ends with 10, or with nothing behind the last record.
abbrev pub EndsShort : Type 0
EndsShort = (place : ℕ) (s : Session) (bytes : List ℕ) → front bytes ≡ Short → run_from place s bytes ≡ end_lines place bytes

-- ── The table of the worked run ──

abbrev pub WorkedTable : Type 0
WorkedTable = computed ≡ printed

-- Its bytes are its steps: the run over them has the same lines, all 21.
abbrev pub WorkedBytes : Type 0
WorkedBytes = run input_bytes ≡ lines_from 1 fresh input

-- Its last line as text: "21 6 24 1 0" and a line end.
abbrev pub LineAsText : Type 0
LineAsText = line_text (line 21 6 24 1 0) ≡ 50 ∷ 49 ∷ 32 ∷ 54 ∷ 32 ∷ 50 ∷ 52 ∷ 32 ∷ 49 ∷ 32 ∷ 48 ∷ 10 ∷ []

-- ── The older text ──

-- Its edges have the answers that the description gives them.
abbrev pub EdgesOfTexts : Type 0
EdgesOfTexts = edges_computed ≡ edges_stated

-- ── All of them: the one theorem of this crate ──

pub record Promised : Type 0 where
  pub decided : Decided
  pub lowest_first : LowestFirst
  pub halves : Halves
  pub by_inputs : ByInputs
  pub table_rule : TableRule
  pub listed : Listed
  pub counters_true : CountersTrue
  pub derived_true : DerivedTrue
  pub empty_clause : EmptyClause
  pub no_cheaper : NoCheaper
  pub any_mixture : AnyMixture
  pub reordered : Reordered
  pub cost_law : CostLaw
  pub total_law : TotalLaw
  pub unmoved : Unmoved
  pub in_blocks : InBlocks
  pub ends_wrong : EndsWrong
  pub ends_short : EndsShort
  pub worked_table : WorkedTable
  pub worked_bytes : WorkedBytes
  pub line_as_text : LineAsText
  pub edges_of_texts : EdgesOfTexts
