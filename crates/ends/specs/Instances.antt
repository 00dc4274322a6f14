-- No premise is empty: a setting that is as listed, with rooms, and a report each way.
use Rattle.std.specs.Prelude.{List, [], ◌∷◌, replicate}
use Rattle.digest.specs.declared.mac.Mac.{Mac}
use Rattle.demands.specs.Example.{example_id, example_secret, example_random, example_out, example_data}
use Rattle.ends.specs.Sides.{Turn, from_unit, from_shore, ListedTurns}
use Rattle.ends.specs.InOrder.{Setting, ListedSetting, Rooms, ListedRooms, Met}

-- both kinds offered, refresh 3; the widths of the two windows differ
abbrev pub example_setting : Setting
example_setting =
    record {
      id = example_id;
      secret = example_secret;
      unit_width = 32;
      shore_width = 64;
      client = replicate 16 0x11;
      server = example_random;
      kinds = 3 ∷ 2 ∷ [];
      refresh = 3;
    }

abbrev pub example_rooms : Rooms
example_rooms =
    record { for_hello = example_out; for_reply = example_out; for_flight = example_out; random = example_random; for_none = example_out }

abbrev pub example_turns : List Turn
example_turns = from_unit example_data example_out example_random example_out ∷ from_shore example_data example_out example_out ∷ []

pub record InOrderInstances : Type 0 where
  pub setting : ListedSetting example_setting
  pub rooms : ListedRooms example_rooms
  pub turns : (mac : Mac) → ListedTurns mac example_turns
  pub met : Met example_setting example_rooms
