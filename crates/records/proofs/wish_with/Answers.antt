-- The lent part holds the first literals.
use Rattle.records.proofs.wish_with.Goals as goal

pub returns-clause-stepped : goal.returns-clause-stepped
returns-clause-stepped c =
    λ s outputs r eq H W z. rw (c.copy_literals.ensures, c.number_of_four-weight.ensures) at (c.wish.ensures.stepped s outputs r eq H W z)
