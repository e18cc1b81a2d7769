-- The rooms of a session as one value that a caller owns.
use Rattle.std.specs.Prelude.{pos, replicate}
use Rattle.rooms.specs.declared.Rooms.{Rooms}

-- Every room, all zeros.
abbrev pub zeros : Rooms
zeros =
    record {
      rules = replicate 16384 (pos 0);
      rule_ends = replicate 2048 0;
      wishes = replicate 8192 (pos 0);
      wish_ends = replicate 512 0;
      wish_weights = replicate 512 0;
      derived = replicate 16384 (pos 0);
      derived_ends = replicate 4096 0;
      inputs = replicate 8192 (pos 0);
      counter_ends = replicate 128 0;
      left = replicate 512 0;
      outputs = replicate 8192 0;
      low = replicate 4001 0;
      high = replicate 65536 0;
    }
