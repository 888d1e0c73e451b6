use Rattle.std.proofs.Common.{refl}
use Rattle.std.proofs.lemmas.Bool.{OnFalse_at, OnTrue_at}
use Rattle.b67_image.proofs.Answering.{made, none_found, none_made, sectors_of, shelf_of}
use Rattle.b67_image.proofs.reading.machine_of.Goals as goal

pub returns-in-Ok-None : goal.returns-in-Ok-None
returns-in-Ok-None c = (refl, none_found c.args.found c.as_slice.result.now c.as_slice.ensures (rw c.in-Ok-None.field-0-is at c.in-Ok-None.ensures.none))

pub is_shaped-requires : goal.is_shaped-requires
is_shaped-requires c = record {
  shelf =
      shelf_of c.args.found.links c.in-Ok-Some.sectors (sectors_of c.as_slice.result.now c.args.found.links c.in-Ok-Some.sectors c.as_slice.ensures (rw c.in-Ok-Some.field-0-is at c.in-Ok-Some.ensures.some) (rw c.in-Ok-Some.field-0-is at c.in-Ok-Some.ensures.each) (rw c.in-Ok-Some.field-0-is at c.in-Ok-Some.ensures.told));
}

pub returns-then-not-shaped : goal.returns-then-not-shaped
returns-then-not-shaped c =
    let sectors = sectors_of c.as_slice.result.now c.args.found.links c.in-Ok-Some.sectors c.as_slice.ensures (rw c.in-Ok-Some.field-0-is at c.in-Ok-Some.ensures.some) (rw c.in-Ok-Some.field-0-is at c.in-Ok-Some.ensures.each) (rw c.in-Ok-Some.field-0-is at c.in-Ok-Some.ensures.told) in
    (refl, none_made c.args.found c.in-Ok-Some.sectors c.tasks_of.result sectors c.tasks_of.ensures (OnFalse_at c.if-not-shaped.true c.in-Ok.ensures.none))

pub returns : goal.returns
returns c =
    let sectors = sectors_of c.as_slice.result.now c.args.found.links c.in-Ok-Some.sectors c.as_slice.ensures (rw c.in-Ok-Some.field-0-is at c.in-Ok-Some.ensures.some) (rw c.in-Ok-Some.field-0-is at c.in-Ok-Some.ensures.each) (rw c.in-Ok-Some.field-0-is at c.in-Ok-Some.ensures.told) in
    made c.args.found c.in-Ok-Some.sectors c.tasks_of.result sectors c.tasks_of.ensures (OnTrue_at c.if-not-shaped.false c.in-Ok.ensures.some)
