-- What is promised of Standard (specs/Standard.antt) holds: each field by its theorem. Assumes nothing.
use Rattle.encoding.proofs.EncodingLaws.{encode-read}
use Rattle.canonical.proofs.FormLaws.{form-read, form-equivalent, form-length, form-order}
use Rattle.canonical.proofs.OnlyTheorems.{standard-only}
use Rattle.canonical.proofs.SameTheorems.{standard-same, standard-again}
use Rattle.canonical.proofs.StandardTheorems.{standard-exactly, standard-writes}
use Rattle.demands.specs.Standard.{Standard}

pub standard : Standard
standard = record {
  exactly = standard-exactly;
  writes = standard-writes;
  order = form-order;
  same = standard-same;
  mark = λ s a. (form-read s a).marked;
  relisting = λ s a. (form-equivalent s a, form-length s a);
  only = standard-only;
  again = standard-again;
  read_back = encode-read;
}
