-- What is promised of the two marks (specs/Marks.antt) holds: each field by its theorem. Assumes nothing.
use Rattle.netlist.proofs.NetlistLaws.{well_formed-readable, as-in-01, as-in-02}
use Rattle.routing.proofs.ListingTheorems.{listing-equivalent, read_same, check-same, call_same, remove-same}
use Rattle.canonical.proofs.TwinTheorems.{widened-twin, widened-bytes, twin-only, twin-bytes, twin-record, twin-past, twin-form}
use Rattle.demands.specs.Marks.{Marks}

pub marks : Marks
marks = record {
  short_record = λ s a m k h. as-in-01 (well_formed-readable s a) k h m;
  long_record = λ s a m k h. as-in-02 (well_formed-readable s a) k h m;
  same_listing = λ i t L. record {
    read = read_same i.sheet t L;
    check = check-same i.sheet t L i.dead i.old;
    call = call_same i t L;
    remove = remove-same i t L;
  };
  twin_there = widened-twin;
  twin_of_bytes = widened-bytes;
  twin_only = twin-only;
  twin_relisted = λ s t T. listing-equivalent s t T.same;
  twin_bytes = twin-bytes;
  twin_record = twin-record;
  twin_past = twin-past;
  twin_form = twin-form;
}
