-- Parts of a list.
use Rattle.std.specs.Prelude.{if◌then◌else◌, ◌&&◌, List, [], ℕ, ◌-◌, leb, length, take, drop}

-- The elements from `start` to `end`, none where these bound no part.
abbrev pub part_of : {A : Type 0} → List A → ℕ → ℕ → List A
part_of list start end = if leb start end && leb end (length list) then take (end - start) (drop start list) else []
