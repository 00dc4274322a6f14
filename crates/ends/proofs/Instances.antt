-- The premises are met.
use mathlib.Core.Path.{refl}
use lib.Dec.{lit≤}
use Rattle.digest.specs.declared.mac.Mac.{Mac}
use Rattle.digest.specs.declared.mac.Mac.TheVariants as M
use Rattle.ends.specs.Sides.{ListedTurns}
use Rattle.ends.specs.InOrder.{sha_first, ListedSetting, ListedRooms}
use Rattle.ends.specs.Instances.{example_setting, example_rooms, example_turns, InOrderInstances}
use Rattle.ends.proofs.InOrder.{met}

listed : (mac : Mac) → ListedTurns mac example_turns
listed M.Sha80 = ((lit≤ tt, lit≤ tt, lit≤ tt, refl, lit≤ tt), ((lit≤ tt, lit≤ tt, lit≤ tt, lit≤ tt), tt))
listed M.Sha = ((lit≤ tt, lit≤ tt, lit≤ tt, refl, lit≤ tt), ((lit≤ tt, lit≤ tt, lit≤ tt, lit≤ tt), tt))

pub in_order_instances : InOrderInstances
in_order_instances =
    let setting : ListedSetting example_setting = record {
      id_size = refl;
      secret_size = refl;
      unit_held = (lit≤ tt, lit≤ tt);
      shore_held = (lit≤ tt, lit≤ tt);
      client_size = refl;
      server_size = refl;
      kinds_known = sha_first;
      refresh_most = lit≤ tt;
    } in
    let rooms : ListedRooms example_rooms = record { hello_room = lit≤ tt; reply_room = lit≤ tt; flight_room = lit≤ tt; random_size = refl; none_room = lit≤ tt } in
    record {
      setting = setting;
      rooms = rooms;
      turns = listed;
      met = met example_setting setting example_rooms rooms;
    }
