use Rattle.std.proofs.Common.{◌≡◌, ℕ, List, length, Some, None, ap, arith, sym, ◌∙◌, subst, slice_set}
use Rattle.b67_word.specs.Tagged.{Tagged}
use Rattle.b67_area.specs.declared.Info.{Info}
use Rattle.b67_area.specs.Spans.{area_at}
use Rattle.b67_area.specs.Directory.{IsDirectory}
use Rattle.b67_stack.specs.Common.{Location, PagedObject, MachineView, Storage, home_word_of, Represents, info_of}
use Rattle.b67_ctl.specs.declared.registers.Regs.{Regs}
use Rattle.b67_stack.specs.declared.Cpu.{Cpu}
use Rattle.b67_overlay.specs.Overlaid.{dropped}
use Rattle.b67_overlay.specs.Turns.{Hides}
use Rattle.b67_layout.specs.Machine.{IsPresent}
use Rattle.b67_stack.proofs.Unchanged.{home_below}
use Rattle.b67_overlay.proofs.Sectors.{about, area_here}
use Rattle.b67_overlay.proofs.Dropping.{Freed, directory2, below_dropped, Represents-dropped}
use Rattle.b67_overlay.proofs.overlays.give_back.Goals as goal

-- once its home says that it isn't there
module _ (x : Storage) (core : List Tagged) (r : Regs) (p : MachineView) (s : Represents x core r p) (area : ℕ) (t : PagedObject) (at : IsPresent x p area t) (first : ℕ) (mid : List Tagged) (hd : Hides x core mid p t (record { area = None; chain = first })) (low : ℕ) (low_is : low ≡ x.low)
    (i : Info) (is : i ≡ info_of x t) (w : Tagged) (word_is : w ≡ home_word_of i.kind i.words (record { area = None; chain = first })) (now : List Tagged) (now_is : now ≡ slice_set mid i.owner w) where
  new_is : now ≡ slice_set mid t.home (home_word_of t.kind (length t.numbers) (record { area = None; chain = first }))
  new_is =
      let h : Location = record { area = None; chain = first } in
      let W : Tagged → Type 0 = λ v. now ≡ slice_set mid i.owner v in
      let V : Info → Type 0 = λ j. now ≡ slice_set mid j.owner (home_word_of j.kind j.words h) in
      subst V is (subst W word_is now_is)

  dir : IsDirectory now low x.spans
  dir = subst (λ (n : ℕ). IsDirectory now n x.spans) (sym low_is) (subst (λ (z : List Tagged). IsDirectory z x.low x.spans) (sym new_is) (directory2 x x core r p s area t at first mid hd))

  freed : (new : List Tagged) → (IsDirectory now low x.spans → area_at low x.spans area ≡ Some (info_of x t) → Freed low area x.spans now new) → Freed x.low area x.spans (slice_set mid t.home (home_word_of t.kind (length t.numbers) (record { area = None; chain = first }))) new
  freed new free =
      let F : List Tagged → ℕ → Type 0 = λ c n. Freed n area x.spans c new in
      subst (λ (z : List Tagged). F z x.low) new_is (subst (F now) low_is (free dir (area_here x core r p s area t at low low_is)))

pub set-requires : goal.set-requires
set-requires c =
    let (x, p, t, s, k, low, at, is) = c.requires.machine in
    let h : Location = record { area = None; chain = c.args.first } in
    let hd = c.hide_copies.ensures.hides x p t h s k at is in
    omega (arith, (home_below x c.args.cpu.now.core c.args.cpu.now.regs p s t at.there).1, s.inside, hd.size, ap (λ (i : Info). i.owner) is)

pub absent_word-requires-clause-words : goal.absent_word-requires-clause-words
absent_word-requires-clause-words c =
    let (x, p, t, s, k, low, at, is) = c.requires.machine in
    omega (arith, (about x c.args.cpu.now.core c.args.cpu.now.regs p s c.args.area t at).few, ap (λ (i : Info). i.words) is)

pub free-requires : goal.free-requires
free-requires c =
    let (x, p, t, s, k, low, at, is) = c.requires.machine in
    let h : Location = record { area = None; chain = c.args.first } in
    let hd = c.hide_copies.ensures.hides x p t h s k at is in
    (x.spans, info_of x t, dir x c.args.cpu.now.core c.args.cpu.now.regs p s c.args.area t at c.args.first c.hide_copies.new.cpu.core hd c.args.areas.now.low low c.args.info is c.absent_word.result c.absent_word.ensures c.set.new.self c.set.ensures.value, area_here x c.args.cpu.now.core c.args.cpu.now.regs p s c.args.area t at c.args.areas.now.low low)

pub returns-clause-len : goal.returns-clause-len
returns-clause-len c =
    let (x, p, t, s, k, low, at, is) = c.requires.machine in
    let h : Location = record { area = None; chain = c.args.first } in
    let hd = c.hide_copies.ensures.hides x p t h s k at is in
    c.free.ensures.len ∙ c.set.ensures.len ∙ hd.size

pub returns-clause-stands : goal.returns-clause-stands
returns-clause-stands c = λ x y p t s k low at is o.
    let h : Location = record { area = None; chain = c.args.first } in
    let hd = c.hide_copies.ensures.hides x p t h s k at is in
    let fr = freed x c.args.cpu.now.core c.args.cpu.now.regs p s c.args.area t at c.args.first c.hide_copies.new.cpu.core hd c.args.areas.now.low low c.args.info is c.absent_word.result c.absent_word.ensures c.set.new.self c.set.ensures.value c.free.new.core (λ dir here. record {
      directory = c.free.ensures.row x.spans (info_of x t) dir here;
      outside = c.free.ensures.outside x.spans (info_of x t) dir here;
      areas = λ q. c.free.ensures.areas x.spans q;
      size = c.free.ensures.len;
    }) in
    let R : Regs → Type 0 = λ r. Represents (dropped x y t c.args.area c.args.first) c.free.new.core r p in
    subst R (ap (λ (z : Cpu). z.regs) (sym c.hide_copies.ensures.rest)) (Represents-dropped x y c.args.cpu.now.core c.args.cpu.now.regs p s c.args.area t at c.args.first c.hide_copies.new.cpu.core hd o c.free.new.core fr)

pub returns-clause-outside : goal.returns-clause-outside
returns-clause-outside c = λ x p t s k low at is.
    let h : Location = record { area = None; chain = c.args.first } in
    let hd = c.hide_copies.ensures.hides x p t h s k at is in
    let fr = freed x c.args.cpu.now.core c.args.cpu.now.regs p s c.args.area t at c.args.first c.hide_copies.new.cpu.core hd c.args.areas.now.low low c.args.info is c.absent_word.result c.absent_word.ensures c.set.new.self c.set.ensures.value c.free.new.core (λ dir here. record {
      directory = c.free.ensures.row x.spans (info_of x t) dir here;
      outside = c.free.ensures.outside x.spans (info_of x t) dir here;
      areas = λ q. c.free.ensures.areas x.spans q;
      size = c.free.ensures.len;
    }) in
    below_dropped x x c.args.cpu.now.core c.args.cpu.now.regs p s c.args.area t at c.args.first c.hide_copies.new.cpu.core hd c.free.new.core fr
