-- Bytes that are missing count as zeros.
use Rattle.std.specs.Prelude.{◌≡◌, List, [], ◌∷◌, ◌++◌, ◌+◌, ◌*◌, ℕ, zero, suc, take, replicate, refl}
use Rattle.std.proofs.Common.{ap}
use Rattle.paper.specs.Records.{number, signed}

zeros : (size count : ℕ) → number (take size (replicate count 0)) ≡ 0
zeros zero count = refl
zeros (suc size) zero = refl
zeros (suc size) (suc count) = ap (λ n. 0 + 256 * n) (zeros size count)

pub padded_number : (size : ℕ) (bytes : List ℕ) (count : ℕ) → number (take size (bytes ++ replicate count 0)) ≡ number (take size bytes)
padded_number zero bytes count = refl
padded_number (suc size) [] count = zeros (suc size) count
padded_number (suc size) (b ∷ bytes) count = ap (λ n. b + 256 * n) (padded_number size bytes count)

pub padded_literal : (bytes : List ℕ) (count : ℕ) → signed (number (take 4 (bytes ++ replicate count 0))) ≡ signed (number (take 4 bytes))
padded_literal bytes count = ap signed (padded_number 4 bytes count)
