-- What is promised of Remove (specs/Remove.antt) holds: each field by its theorem. Assumes nothing.
use Rattle.routing.proofs.DeadTheorems.{remove-no-list, remove-broken}
use Rattle.routing.proofs.RemoveTheorems.{remove-exactly, remove-writes, remove-bytes, remove-legal, remove-tests}
use Rattle.routing.proofs.WayBackTheorems.{way_back, remove-resp}
use Rattle.demands.specs.Remove.{Remove}

pub remove : Remove
remove = record {
  exactly = remove-exactly;
  writes = remove-writes;
  bytes = remove-bytes;
  legal = remove-legal;
  tests = remove-tests;
  no_list = remove-no-list;
  way_back = way_back;
  relisted = remove-resp;
  broken = remove-broken;
}
