-- `decimal::Text::put_word` meets its contract. Assumes nothing.
use Rattle.std.proofs.Common.{◌+◌, ◌≤◌, length, refl, arith}
use borrow.Rule.Slice.PartMut.{Post-is}
use Rattle.decimal.specs.Put.{put_at}
use Rattle.decimal.proofs.Text.put_word.Goals as goal

pub returns : goal.returns
unfolding put_at
returns c =
    let t = c.args.self.now in
    let h : t.len ≤ t.len + length c.args.word.now = omega arith in
    record { put = record { bytes = rw (c.copy_from_slice.ensures.after, Post-is); behind = refl }; same = refl }
