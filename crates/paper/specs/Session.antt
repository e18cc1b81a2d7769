-- A session: what rules and wishes write (the sheet), and what derived clauses and cores write (the work). Rules and wishes
-- never read the work, which is why a late one can shift nothing there.
use Rattle.std.specs.Prelude.{Bool, false, ◌||◌, ◌&&◌, List, [], ◌∷◌, ◌++◌, ℕ, zero, suc, ◌+◌, ◌-◌, ◌/◌, ◌%◌, ℤ, pos, eqb, leb, ltb, length, get_or}
use Rattle.paper.specs.Sizes.{narrow, first_wish, wish_variable, first_counter, counter_start}
use Rattle.paper.specs.declared.Width.{Width}
use Rattle.paper.specs.declared.Tally.{Tally}
use Rattle.paper.specs.Clauses.{Clause, variable, only, pick, from}
use Rattle.paper.specs.Counters.{tree_of, variables, clauses, clause_at}

pub record Wish : Type 0 where
  pub literals : Clause
  pub weight : ℕ

-- A counter's inputs, and the weight that its root outputs 2 to m got when it was made.
pub record Counter : Type 0 where
  pub inputs : List ℕ
  pub weight : ℕ

pub record Sheet : Type 0 where
  pub width : Width
  pub variables : ℕ  -- n; 0 until the session is opened
  pub rules : List Clause
  pub wishes : List Wish

pub record Work : Type 0 where
  pub derived : List Clause
  pub counters : List Counter
  pub used : ℕ → ℕ  -- by variable number, the weight that cores have taken from it
  pub bound : ℕ

pub record Session : Type 0 where
  pub sheet : Sheet
  pub work : Work

abbrev pub blank : ℕ → Sheet
blank n = record { width = narrow; variables = n; rules = []; wishes = [] }

abbrev pub no_work : Work
no_work = record { derived = []; counters = []; used = λ v. 0; bound = 0 }

-- Before its opening.
abbrev pub fresh : Session
fresh = record { sheet = blank 0; work = no_work }

-- The counts of the four families and the bound form one small tally.
abbrev pub tally_of : Session → Tally
tally_of s =
    record {
      variables = s.sheet.variables;
      rules = length s.sheet.rules;
      wishes = length s.sheet.wishes;
      derived = length s.work.derived;
      counters = length s.work.counters;
      bound = s.work.bound;
    }

-- ── Remaining weight ──

-- A new wish starts with its weight on its variable; `v₀` is the first wish's variable.
abbrev pub wish_gives : List Wish → ℕ → ℕ → ℕ
wish_gives [] v₀ v = 0
wish_gives (x ∷ xs) v₀ v = only (eqb v v₀) x.weight + wish_gives xs (suc v₀) v

-- Weight w on each variable of a list.
abbrev pub spread : ℕ → List ℕ → ℕ → ℕ
spread w [] v = 0
spread w (x ∷ xs) v = only (eqb v x) w + spread w xs v

-- Root outputs 2 to m of a counter over m inputs.
abbrev pub upper_outputs : ℕ → ℕ → List ℕ
upper_outputs start zero = []
upper_outputs start (suc m) = from (suc start) m

abbrev pub counter_gives : ℕ → List Counter → ℕ → ℕ → ℕ
counter_gives stride [] start v = 0
counter_gives stride (x ∷ xs) start v =
    spread x.weight (upper_outputs start (length x.inputs)) v + counter_gives stride xs (start + stride) v

abbrev pub given : Sheet → Work → ℕ → ℕ
given S W v = wish_gives S.wishes first_wish v + counter_gives S.width.stride W.counters first_counter v

-- What a variable was given, less what cores have taken from it.
abbrev pub remaining : Sheet → Work → ℕ → ℕ
remaining S W v = given S W v - W.used v

-- ── Names ──

-- In rules and wishes: in 1..n by size.
abbrev pub problem_literal : ℕ → ℤ → Bool
problem_literal n l = leb 1 (variable l) && leb (variable l) n

abbrev pub in_counters : ℕ → List Counter → ℕ → ℕ → Bool
in_counters stride [] start v = false
in_counters stride (x ∷ xs) start v =
    (leb start v && ltb v (start + variables (tree_of x.inputs))) || in_counters stride xs (start + stride) v

-- In derived clauses: a problem, wish or counter variable; other numbers name nothing.
abbrev pub named_literal : Sheet → Work → ℤ → Bool
named_literal S W l =
    problem_literal S.variables l
    || ((leb first_wish (variable l) && ltb (variable l) (wish_variable (length S.wishes)))
    || in_counters S.width.stride W.counters first_counter (variable l))

-- ── Clauses by number ──

-- What a hint names. A hint of another family, or with a first number where none belongs, is of nothing.
pub data Hint : Type 0 where
  of_rule : ℕ → Hint
  of_wish : ℕ → Hint
  of_counter : ℕ → ℕ → Hint
  of_derived : ℕ → Hint
  of_nothing : Hint

-- Family 1 is rules, 2 wish clauses, 4 derived clauses: the first number is 0, the second the clause's. Family 3 is counters: the
-- first number is the counter's, the second its clause's.
abbrev pub hint_of : ℕ → ℕ → ℕ → Hint
hint_of family first second =
    pick (eqb family 3) (of_counter first second)
    (pick (ltb 0 first) of_nothing
    (pick (eqb family 1) (of_rule second)
    (pick (eqb family 2) (of_wish second)
    (pick (eqb family 4) (of_derived second) of_nothing))))

-- A hint's 8 bytes as one little-endian number: family 2 bytes, first 2, second 4.
abbrev pub hint_in : ℕ → Hint
hint_in word = hint_of (word % 65536) (word / 65536 % 65536) (word / 4294967296)

abbrev pub no_wish : Wish
no_wish = record { literals = []; weight = 0 }

abbrev pub no_counter : Counter
no_counter = record { inputs = []; weight = 0 }

-- The clause of wish j is its literals followed by its wish variable.
abbrev pub wish_clause : ℕ → Wish → Clause
wish_clause j x = x.literals ++ (pos (wish_variable j) ∷ [])

abbrev pub hint_named : Sheet → Work → Hint → Bool
hint_named S W (of_rule i) = ltb i (length S.rules)
hint_named S W (of_wish j) = ltb j (length S.wishes)
hint_named S W (of_counter c i) = ltb i (clauses (tree_of (get_or W.counters c no_counter).inputs))
hint_named S W (of_derived d) = ltb d (length W.derived)
hint_named S W of_nothing = false

-- For an absent number of a rule or a derived clause, an empty one.
abbrev pub hint_clause : Sheet → Work → Hint → Clause
hint_clause S W (of_rule i) = get_or S.rules i []
hint_clause S W (of_wish j) = wish_clause j (get_or S.wishes j no_wish)
hint_clause S W (of_counter c i) = clause_at (tree_of (get_or W.counters c no_counter).inputs) (counter_start S.width c) i
hint_clause S W (of_derived d) = get_or W.derived d []
hint_clause S W of_nothing = []
