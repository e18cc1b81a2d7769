-- The low four bytes of a number's eight are copied.
use Rattle.std.proofs.Common.{◌≡◌, take, arith, refl, ◌∙◌}
use Rattle.paper.specs.Texts.{bytes_for}
use Rattle.output.proofs.Bytes.{low_four, copied}
use Rattle.output.proofs.put_four.Goals as goal

pub returns : goal.returns
returns c =
    let low : take 4 c.to_le_bytes.result ≡ bytes_for 4 c.args.number = rw c.to_le_bytes.ensures (low_four c.args.number) in
    record {
      bytes = copied c.args.out.now c.args.at _ (bytes_for 4 c.args.number) _ (c.copy_from_slice.ensures.after ∙ low) (omega arith) c.requires;
      ends = refl;
    }
