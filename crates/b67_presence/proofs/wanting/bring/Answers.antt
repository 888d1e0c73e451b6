use Rattle.std.proofs.Common.{◌+◌, ◌∙◌, sym, refl, arith, length}
use Rattle.std.proofs.lemmas.Result.{on_ok_weaker, on_err_weaker}
use Rattle.b67_layout.specs.Layout.{array_object, machine_view}
use Rattle.b67_stack.specs.declared.What.TheVariants as what
use Rattle.b67_task.specs.Needing.{need_with}
use Rattle.b67_overlay.proofs.Answered.{core_full}
use Rattle.b67_presence.proofs.Forcing.{same_need, need_is}
use Rattle.b67_layout_spans.proofs.Sessions.{view_of}
use Rattle.b67_presence.proofs.Again.{machine_of, view_stands}
use Rattle.b67_presence.proofs.Ends.{brings_code, brings_array}
use Rattle.b67_presence.proofs.Refusals.{code_lacks, array_lacks, refused_waits, refused_full, refused_array, refused_still, stays_in, stays_put, in_place_code, in_place_array, in_place_as, no_room_code, no_room_array, refused_as, full_as, room_code, room_array, untouched_code, untouched_array}
use Rattle.b67_layout_spans.proofs.FullDevice.{short_full}
use Rattle.b67_presence.proofs.Seen.{readable}
use Rattle.b67_presence.proofs.Wants.{code_found, address, address_small, displaced, code_absent, code_present, array_absent, need_code, need_array, needed_is, fits_not, core_has, room_fits, wanted_code, wanted_array, brings_as}
use Rattle.b67_presence.proofs.wanting.bring.Goals as goal

pub words_of-words-requires : goal.words_of-words-requires
words_of-words-requires g c = (g.B.Backing.holds c.args.backing.now, c.requires.wants)

pub returns-in-Code-clause-unchanged : goal.returns-in-Code-clause-unchanged
returns-in-Code-clause-unchanged g c = λ need size e. absurd (c.bring_code.ensures.no_core need size e)

pub returns-in-Array-clause-unchanged : goal.returns-in-Array-clause-unchanged
returns-in-Array-clause-unchanged g c = λ need size e. absurd (c.bring_data.ensures.no_core need size e)

pub need-needed-requires-clause-runs : goal.need-needed-requires-clause-runs
need-needed-requires-clause-runs g c =
    let q = c.requires.wants in
    record { storage = q.storage; told = q.storage.device; plan = q.plan; session = q.session; member = q.member; task = q.task; ordered = q.ordered; stands = q.stands.stands; running = q.running }

pub returns-then-needed-core-clause-row : goal.returns-then-needed-core-clause-row
returns-then-needed-core-clause-row g c = λ x plan s m t words o h runs wanted.
    let told = g.B.Backing.holds c.args.backing.now in
    let k = c.args.machine.now in
    let is = needed_is x told k plan s m t o h runs words c.words_of-words.result c.need-needed.result (c.words_of-words.ensures.words x told plan s m t words o h runs wanted) (c.need-needed.ensures x x.device plan s m t o h.stands runs) in
    record {
      came = tt;
      refused = refused_still x told k plan s o h m t c.args.absent words wanted;
      hole = λ room. (refl, record { told = λ all e. e }, stays_put x told k plan s o h, tt);
      zeros = λ room untouched. absurd (fits_not (need_with s m t 0 words) (length k.cpu.core) (length k.cpu.core) (need_with s m t 0 words) (room_fits x told k plan s m t o h runs c.args.absent words wanted room untouched) refl refl (omega (arith, c.if-needed-core.true, c.size-core.ensures.value, is)));
      no_core = λ need size. (
        λ e. let q = need_is c.need-needed.result c.size-core.result need size e in (omega (arith, c.if-needed-core.true, c.size-core.ensures.value, is), sym q.0 ∙ is, sym q.1 ∙ c.size-core.ensures.value),
        λ h. same_need c.need-needed.result c.size-core.result need size (is ∙ sym h.1) (c.size-core.ensures.value ∙ sym h.2),
      );
      full = λ wants free e. absurd (core_full e);
    }

pub overflow_add-code : goal.overflow_add-code
overflow_add-code g c =
    let q = c.requires.wants in
    let told = g.B.Backing.holds c.args.backing.now in
    let k = c.args.machine.now in
    let w = wanted_code q.storage q.plan q.member q.task c.args.absent q.words c.in-Code.displacement c.in-Code.is q.wanted in
    let is = displaced q.storage told k q.plan q.session q.member q.task q.ordered q.stands q.running c.from.result (c.from.ensures ∙ w.0) in
    let at = address q.storage told k q.plan q.session q.member q.task q.ordered q.stands q.running in
    let small = address_small q.storage told k q.plan q.session q.member q.task q.ordered q.stands q.running in
    omega (arith, is, at, small)

pub bring_code-requires-clause-machine : goal.bring_code-requires-clause-machine
bring_code-requires-clause-machine g c =
    let q = c.requires.wants in
    let told = g.B.Backing.holds c.args.backing.now in
    let k = c.args.machine.now in
    let w = wanted_code q.storage q.plan q.member q.task c.args.absent q.words c.in-Code.displacement c.in-Code.is q.wanted in (
      q.storage,
      machine_view q.plan q.session.jobs,
      (code_found q.plan q.session q.member q.task q.ordered q.running).object,
      view_stands q.storage told k q.plan q.session q.ordered q.stands,
      code_absent q.storage told k q.plan q.session q.member q.task q.ordered q.stands q.running c.from.result (c.from.ensures ∙ w.0) w.1,
      core_has c.need-needed.result c.size-core.result (length k.cpu.core) (need_with q.session q.member q.task 0 q.words) _ (omega (arith, c.if-needed-core.false)) c.size-core.ensures.value
          (needed_is q.storage told k q.plan q.session q.member q.task q.ordered q.stands q.running q.words c.words_of-words.result c.need-needed.result
          (c.words_of-words.ensures.words q.storage told q.plan q.session q.member q.task q.words q.ordered q.stands q.running q.wanted) (c.need-needed.ensures q.storage q.storage.device q.plan q.session q.member q.task q.ordered q.stands.stands q.running))
          (need_code q.storage told k q.plan q.session q.member q.task q.ordered q.stands q.running q.words w.2),
    )

pub overflow_add-code-in-Array : goal.overflow_add-code-in-Array
overflow_add-code-in-Array g c =
    let q = c.requires.wants in
    let told = g.B.Backing.holds c.args.backing.now in
    let k = c.args.machine.now in
    let small = address_small q.storage told k q.plan q.session q.member q.task q.ordered q.stands q.running in
    omega (arith, c.from-in-Array.ensures, small)

pub bring_data-requires-clause-machine : goal.bring_data-requires-clause-machine
bring_data-requires-clause-machine g c =
    let q = c.requires.wants in
    let told = g.B.Backing.holds c.args.backing.now in
    let k = c.args.machine.now in
    let w = wanted_array q.storage q.plan q.member q.task c.args.absent q.words c.in-Array.original c.in-Array.is q.wanted in
    let (at, code) = code_present q.storage told k q.plan q.session q.member q.task q.ordered q.stands q.running c.from-in-Array.result c.from-in-Array.ensures w.code in (
      q.storage,
      machine_view q.plan q.session.jobs,
      array_object q.plan q.member.constants.number w.array,
      (code_found q.plan q.session q.member q.task q.ordered q.running).object,
      at,
      view_stands q.storage told k q.plan q.session q.ordered q.stands,
      array_absent q.storage told k q.plan q.session q.member q.task q.ordered q.stands q.running c.in-Array.original q.words w,
      code,
      core_has c.need-needed.result c.size-core.result (length k.cpu.core) (need_with q.session q.member q.task 0 q.words) _ (omega (arith, c.if-needed-core.false)) c.size-core.ensures.value
          (needed_is q.storage told k q.plan q.session q.member q.task q.ordered q.stands q.running q.words c.words_of-words.result c.need-needed.result
          (c.words_of-words.ensures.words q.storage told q.plan q.session q.member q.task q.words q.ordered q.stands q.running q.wanted) (c.need-needed.ensures q.storage q.storage.device q.plan q.session q.member q.task q.ordered q.stands.stands q.running))
          (need_array q.storage told k q.plan q.session q.member q.task q.ordered q.stands q.running c.in-Array.original q.words w),
    )

pub returns-in-Code-clause-row : goal.returns-in-Code-clause-row
returns-in-Code-clause-row g c = λ x plan s m t words o h runs wanted.
    let told = g.B.Backing.holds c.args.backing.now in
    let k = c.args.machine.now in
    let new = c.bring_code.new in
    let d = c.in-Code.displacement in
    let w = wanted_code x plan m t c.args.absent words d c.in-Code.is wanted in
    let p = machine_view plan s.jobs in
    let mx = view_stands x told k plan s o h in
    let a = code_absent x told k plan s m t o h runs c.from.result (c.from.ensures ∙ w.0) w.1 in
    let found = code_found plan s m t o runs in
    let code = found.object in
    let now = g.B.Backing.holds new.backing in
    let keeps = c.bring_code.ensures.keeps in
    let row = c.bring_code.ensures.row x p code mx a in
    let need_is = needed_is x told k plan s m t o h runs words c.words_of-words.result c.need-needed.result (c.words_of-words.ensures.words x told plan s m t words o h runs wanted) (c.need-needed.ensures x x.device plan s m t o h.stands runs) in
    record {
      came = on_ok_weaker c.bring_code.result
          (λ came. brings_as x now (machine_of new.cpu new.areas new.sectors k.tasks) plan s m t c.args.absent (what.Code d) c.in-Code.is
          (brings_code x told now k plan s o h new.cpu new.areas new.sectors keeps.rest keeps.len keeps.areas row.outside m t runs d w.0 (came (readable x plan s o))))
          row.came;
      refused = on_err_weaker c.bring_code.result
          (λ refused. refused_as x now (machine_of new.cpu new.areas new.sectors k.tasks) plan s m t c.args.absent (what.Code d) c.in-Code.is
          (refused_waits x told now k plan s o h new.cpu new.areas new.sectors keeps.rest keeps.len keeps.areas row.outside m t (what.Code d) 0 refused (λ y sheds. code_lacks x y plan m t d 0 w.1 sheds)))
          row.refused;
      hole = λ room.
          let hole = c.bring_code.ensures.hole x p code mx a (room_code x plan s m t c.args.absent words d found c.in-Code.is room) in (
            hole.sectors,
            hole.device,
            stays_in x told now k plan s o h new.cpu new.areas new.sectors keeps.rest keeps.len keeps.areas row.outside (k.cpu.regs.dict + c.from.result) code a c.bring_code.result hole.read hole.stays,
            on_ok_weaker c.bring_code.result
                (λ read. in_place_as x now (machine_of new.cpu new.areas new.sectors k.tasks) plan s m t c.args.absent (what.Code d) c.in-Code.is
                (in_place_code x told now k plan s o h new.cpu new.areas new.sectors keeps.rest keeps.len keeps.areas row.outside m t runs d w.0 w.1 (read (readable x plan s o))))
                hole.read,
          );
      zeros = λ room untouched. absurd (untouched_code x c.args.absent d c.in-Code.is untouched);
      no_core = λ need size. (
        λ e. absurd (c.bring_code.ensures.no_core need size e),
        λ q. absurd (fits_not c.need-needed.result c.size-core.result (length k.cpu.core) (need_with s m t 0 words) (omega (arith, c.if-needed-core.false)) c.size-core.ensures.value need_is q.0),
      );
      full = λ wants free e.
          let (none, waits, short, still) = row.full wants free e in (
            short_full waits.storage new.cpu new.areas new.sectors now plan s wants free (g.B.Backing.size c.args.backing.now) (view_of waits.storage new.cpu new.areas new.sectors now p waits.stands) short (c.requires.same ∙ sym keeps.count),
            λ room. none (room_code x plan s m t c.args.absent words d found c.in-Code.is room),
            full_as x now (machine_of new.cpu new.areas new.sectors k.tasks) plan s m t c.args.absent (what.Code d) words 0 wants free c.in-Code.is w.2
                (refused_full x told now k plan s o h new.cpu new.areas new.sectors keeps.rest keeps.len keeps.areas row.outside m t (what.Code d) 0 waits (λ y sheds. code_lacks x y plan m t d 0 w.1 sheds) 0 wants free short
                (no_room_code waits.storage plan s m t d found (code_lacks x waits.storage plan m t d 0 w.1 waits.sheds) still)),
          );
    }

pub returns-in-Array-clause-row : goal.returns-in-Array-clause-row
returns-in-Array-clause-row g c = λ x plan s m t words o h runs wanted.
    let told = g.B.Backing.holds c.args.backing.now in
    let k = c.args.machine.now in
    let new = c.bring_data.new in
    let home = c.in-Array.original in
    let w = wanted_array x plan m t c.args.absent words home c.in-Array.is wanted in
    let (at, present) = code_present x told k plan s m t o h runs c.from-in-Array.result c.from-in-Array.ensures w.code in
    let p = machine_view plan s.jobs in
    let mx = view_stands x told k plan s o h in
    let a = array_absent x told k plan s m t o h runs home words w in
    let object = array_object plan m.constants.number w.array in
    let code = (code_found plan s m t o runs).object in
    let now = g.B.Backing.holds new.backing in
    let keeps = c.bring_data.ensures.keeps in
    let row = c.bring_data.ensures.row x p object code at mx a present in
    let need_is = needed_is x told k plan s m t o h runs words c.words_of-words.result c.need-needed.result (c.words_of-words.ensures.words x told plan s m t words o h runs wanted) (c.need-needed.ensures x x.device plan s m t o h.stands runs) in
    record {
      came = on_ok_weaker c.bring_data.result
          (λ both. brings_as x now (machine_of new.cpu new.areas new.sectors k.tasks) plan s m t c.args.absent (what.Array home) c.in-Array.is
          (brings_array x told now k plan s o h new.cpu new.areas new.sectors keeps.rest keeps.len keeps.areas row.outside m t runs home words w (both (readable x plan s o))))
          row.both;
      refused = on_err_weaker c.bring_data.result
          (λ refused. refused_as x now (machine_of new.cpu new.areas new.sectors k.tasks) plan s m t c.args.absent (what.Array home) c.in-Array.is
          (refused_array x told now k plan s o h new.cpu new.areas new.sectors keeps.rest keeps.len keeps.areas row.outside m t runs home words w (refused (readable x plan s o))))
          row.refused;
      hole = λ room.
          let hole = c.bring_data.ensures.hole x p object mx a (room_array x m t c.args.absent words home (length w.array.numbers) c.in-Array.is w.words_are room) in (
            hole.sectors,
            hole.device,
            stays_in x told now k plan s o h new.cpu new.areas new.sectors keeps.rest keeps.len keeps.areas row.outside home object a c.bring_data.result hole.read hole.stays,
            on_ok_weaker c.bring_data.result
                (λ read. in_place_as x now (machine_of new.cpu new.areas new.sectors k.tasks) plan s m t c.args.absent (what.Array home) c.in-Array.is
                (in_place_array x told now k plan s o h new.cpu new.areas new.sectors keeps.rest keeps.len keeps.areas row.outside m t runs home words w (read (readable x plan s o))))
                hole.read,
          );
      zeros = λ room untouched. row.zeros (room_array x m t c.args.absent words home (length w.array.numbers) c.in-Array.is w.words_are room) (untouched_array x c.args.absent home c.in-Array.is untouched);
      no_core = λ need size. (
        λ e. absurd (c.bring_data.ensures.no_core need size e),
        λ q. absurd (fits_not c.need-needed.result c.size-core.result (length k.cpu.core) (need_with s m t 0 words) (omega (arith, c.if-needed-core.false)) c.size-core.ensures.value need_is q.0),
      );
      full = λ wants free e.
          let (none, waits, short, still) = row.full wants free e in (
            short_full waits.storage new.cpu new.areas new.sectors now plan s wants free (g.B.Backing.size c.args.backing.now) (view_of waits.storage new.cpu new.areas new.sectors now p waits.stands) short (c.requires.same ∙ sym keeps.count),
            λ room. none (room_array x m t c.args.absent words home (length w.array.numbers) c.in-Array.is w.words_are room),
            full_as x now (machine_of new.cpu new.areas new.sectors k.tasks) plan s m t c.args.absent (what.Array home) words words wants free c.in-Array.is refl
                (refused_full x told now k plan s o h new.cpu new.areas new.sectors keeps.rest keeps.len keeps.areas row.outside m t (what.Array home) at waits (λ y sheds. array_lacks x y plan m t home words at w sheds) words wants free short
                (no_room_array x waits.storage plan s m t home words (k.cpu.regs.dict + c.from-in-Array.result) at (code_found plan s m t o runs) w waits.sheds present still)),
          );
    }
