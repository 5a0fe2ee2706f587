-- The built-in kinds by their numbers (01 "Chip and boxes", the table). Definitions only; laws: proofs/TablesLaws.antt. Assumes nothing.
use Rattle.std.specs.Prelude.{ℕ}
use Rattle.switchbox_promises.specs.declared.Kind.{Kind}
use Rattle.switchbox_promises.specs.declared.Kind.TheVariants.{Subset, Wilton, Universal}

-- "0 subset", "1 Wilton", "2 universal"
unfoldable pub kind_of : Kind → ℕ
kind_of Subset = 0
kind_of Wilton = 1
kind_of Universal = 2
