-- Laws of the built-in kinds (specs/Tables.antt). Assumes nothing.
-- kind_of: the number that the code gives, one of three.
use mathlib.Core.Path.{◌≡◌, refl}
use Prim.Native.Nat.{◌<◌}
use native.Mathlib.Omega.{arith}
use denote.Enum.Declared.{tag_of}
use Rattle.switchbox_promises.specs.contracts.Kind.{the_type}
use Rattle.switchbox_promises.specs.declared.Kind.{Kind}
use Rattle.switchbox_promises.specs.declared.Kind.TheVariants.{Subset, Wilton, Universal}
use Rattle.switchbox_promises.specs.Tables.{kind_of}

pub kind_of-tag : (kind : Kind) → tag_of the_type kind ≡ kind_of kind
unfolding kind_of
kind_of-tag Subset = refl
kind_of-tag Wilton = refl
kind_of-tag Universal = refl

pub kind_of-lt : (kind : Kind) → kind_of kind < 3
unfolding kind_of
kind_of-lt Subset = omega arith
kind_of-lt Wilton = omega arith
kind_of-lt Universal = omega arith
