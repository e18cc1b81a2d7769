-- What is missing was filled up with zeros.
use Rattle.std.proofs.Common.{◌∙◌, ℕ, ◌-◌, length}
use Rattle.std.proofs.lemmas.List.{drop-replicate}
use Rattle.payload.proofs.first.Goals as goal

pub returns : goal.returns
returns g c =
    let bytes = c.args.bytes.now in
    let zeros = drop-replicate {X = ℕ} (length bytes) 8 0 in
    rw (c.copy_from_slice.ensures.after, zeros) at c.read-2.ensures ∙ g.met.T.Item.padded bytes (8 - length bytes)
