-- `defects::mark_items` meets its contract: the loop's invariant is that the items passed, and no other wires, are marked, and that none of
-- them is one before it. Assumes nothing.
use mathlib.Core.Path.{sym, ap₂, ◌∙◌, refl}
use native.Mathlib.Omega.{arith}
use Rattle.marks.specs.Marks.{held_at, holding}
use Rattle.defects.proofs.DefectsLaws.{marked-none, marked_more, marked-twice, marked_all}
use Rattle.defects.proofs.ListLaws.{known}
use Rattle.defects.proofs.mark_items.Goals as goal

pub loop-k-init : goal.loop-k-init
loop-k-init c = rw c.requires.1 (marked-none _)

pub is_held-requires : goal.is_held-requires
is_held-requires c =
    let K = (known 480 c.args.d.now).0 c.requires.0 in
    let channel = K.channels c.loop-k.k (omega arith) in
    let track = K.tracks c.loop-k.k (omega arith) in
    (omega arith, omega arith)

-- whether item k is marked is what was seen
pub returns-then-is_held : goal.returns-then-is_held
returns-then-is_held c =
    let seen = c.is_held.ensures ∙ ap₂ (held_at c.loop-k.dead) c.channel_of-c.ensures c.track_of-t.ensures in
    (marked-twice c.loop-k.invariant (omega arith) (sym seen ∙ c.if-is_held.true), refl)

pub hold-requires : goal.hold-requires
hold-requires c =
    let K = (known 480 c.args.d.now).0 c.requires.0 in
    let channel = K.channels c.loop-k.k (omega arith) in
    let track = K.tracks c.loop-k.k (omega arith) in
    (omega arith, omega arith, sym c.is_held.ensures ∙ c.if-is_held.false)

pub loop-k-preserved : goal.loop-k-preserved
loop-k-preserved c =
    let K = (known 480 c.args.d.now).0 c.requires.0 in
    let channel = c.channel_of-c.ensures in
    let track = c.track_of-t.ensures in
    let seen = c.is_held.ensures ∙ ap₂ (held_at c.loop-k.dead) channel track in
    rw (c.hold.ensures ∙ ap₂ (holding c.loop-k.dead) channel track)
    (marked_more c.loop-k.invariant (omega arith) (K.channels c.loop-k.k (omega arith)) (sym seen ∙ c.if-is_held.false))

pub returns : goal.returns
returns c = marked_all c.loop-k.invariant (omega arith)
