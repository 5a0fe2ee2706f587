pub mod ByHand  -- forms by hand
pub mod WrittenLaws  -- the channels of a tree as they are written
pub mod TreeLaws  -- a net's own tree, and what hangs together in it
pub mod CanonicalLaws  -- a net with its tree in canonical form
pub mod SameNetLaws  -- it is the same net
pub mod NetsLaws  -- the nets of a sheet in canonical form
pub mod FormLaws  -- the canonical form of a sheet
pub mod StandardTheorems  -- what Standard gives and writes
pub mod SameTheorems  -- two sheets and their forms, and a form of its own
pub mod TwinTheorems  -- a sheet and its twin of the second mark
pub mod OnlyTheorems  -- the order leaves one listing
