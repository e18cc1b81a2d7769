-- What is taken so far leads on as the whole does, and each clause ends further on in the text.
use Rattle.std.proofs.Common.{[], ◌∷◌, List, ℕ, ◌-◌, ◌≤◌, length}
use Rattle.paper.specs.Texts.{open_record, all_bytes}
use Rattle.values.specs.Lent.{KeptValues}
use Rattle.output.specs.Puts.{Puts}
use Rattle.wcnf.proofs.Clauses.{SoFar}
use Rattle.wcnf.proofs.read_clauses.Given as goal

abbrev pub invariant-loop-found : goal.invariant-loop-found
invariant-loop-found l = record {
  kept : KeptValues l.initial.values l.values;
  within : l.clauses ≤ l.place;
  so_far : (room : List ℕ) → Puts room (all_bytes (open_record l.header.variables ∷ [])) l.initial.written l.initial.out
      → SoFar l.text l.header l.from room l.out l.written l.place l.clauses;
}

abbrev pub decreases-loop-found : goal.decreases-loop-found
decreases-loop-found l = length l.text - l.place
