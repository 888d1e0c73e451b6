-- STFF by the word on top.
use Rattle.std.proofs.Common.{◌≡◌, ◌≢◌, ℕ, ◌<◌, ◌≤◌, List, [], ◌∷◌, None, Ok, Err, refl, sym, ◌∙◌, ap, arith, false, ⊎_elim, subst, get_or}
use Rattle.std.proofs.lemmas.Bool.{cases_lt}
use Rattle.b67_word.specs.Tagged.{Tagged}
use Rattle.b67_word.specs.Couples.{couple}
use Rattle.b67_word.specs.declared.couples.Couple.{Couple}
use Rattle.b67_word.specs.declared.couples.Place.{Place}
use Rattle.b67_word.specs.declared.faults.Fault.{Fault}
use Rattle.b67_word.specs.declared.faults.Fault.TheVariants.{InvalidOperand}
use Rattle.b67_ctl.specs.declared.references.Irw.{Irw}
use Rattle.b67_ctl.specs.declared.references.Sirw.{Sirw}
use Rattle.b67_ctl.specs.Layout.{irw_word, IsIrw, sirw_word}
use Rattle.b67_model.specs.Common.{Answer, ◌>>=◌, cell, named, place_of, frame_at, NamesEntered, reach_of, is_original, on_cells, stff, stff_word, Session, Task, SessionJob, leaves_cells, Word, Name, Ref}
use Rattle.b67_layout.specs.Common.{IsInOrderButCounts, Placement, IsRunning, RepresentsSession, frame_address, here, Meets, cells}
use Rattle.b67_stack.specs.declared.Cpu.{Cpu}
use Rattle.b67_stack.specs.declared.Step.{Step}
use Rattle.b67_stack.specs.declared.Step.TheVariants as step
use Rattle.b67_stack.specs.Represents.{Storage}
use Rattle.b67_refer.specs.Cells.{StandsFor, FindsCell, CellMeets, view}
use Rattle.b67_refer.specs.Ends.{IsReference}
use Rattle.b67_refer.proofs.Chains.{level_is}
use Rattle.b67_refer.proofs.Follows.{is_reference}
use Rattle.b67_refer.proofs.Names.{irw_is, stuffed}
use Rattle.b67_refer.proofs.Unders.{named_above, named_at, names_level, display_at}
use Rattle.b67_exec_cells.proofs.Rows.{Replaces}
use Rattle.b67_refer.specs.RunningContext.{live_of}
use Rattle.b67_refer.specs.Own.{NamesCell}
use Rattle.b67_fetch.proofs.Values.{TopFollowed, here_scene, here_shown, followed_stands}

module _ (x : Storage) (cpu : Cpu) (plan : Placement) (s : Session) (m : SessionJob) (t : Task) (ordered : IsInOrderButCounts s) (h : RepresentsSession x cpu plan s) (runs : IsRunning plan s.jobs m t) (q : Place) (w : Tagged) (top : TopFollowed x plan m t w) where
  stands : StandsFor (here_scene x cpu plan s m t ordered h runs) top.followed.at top.followed.owner w top.word
  stands = followed_stands x cpu plan s m t ordered h runs w top.word top.followed

  -- the row by what becomes of the word
  by_word : (r : Step) (new : Cpu) (answer : Answer Word) → stff_word (here m t q) top.word ≡ answer → Meets x plan s m r cpu new ((answer >>= λ v. Ok (v ∷ top.rest)) >>= λ cs. leaves_cells (here m t q) cs None) → Meets x plan s m r cpu new (on_cells (stff (here m t q)) (here m t q))
  by_word r new answer e i =
      let A : Answer Word → Type 0 = λ z. Meets x plan s m r cpu new ((z >>= λ v. Ok (v ∷ top.rest)) >>= λ cs. leaves_cells (here m t q) cs None) in
      let C : List Word → Type 0 = λ cs. Meets x plan s m r cpu new (stff (here m t q) cs >>= λ ds. leaves_cells (here m t q) ds None) in
      subst C (sym top.is) (subst A (sym e) i)

  -- no reference
  not_stuffed : (v : Word) (at owner : ℕ) → StandsFor (here_scene x cpu plan s m t ordered h runs) at owner w v → w.tag ≢ 1 → stff_word (here m t q) v ≡ Err InvalidOperand
  not_stuffed v at owner i ne = grind arith

  pub stff_refused : w.tag ≢ 1 → Meets x plan s m (step.Fault InvalidOperand) cpu cpu (on_cells (stff (here m t q)) (here m t q))
  stff_refused ne = by_word (step.Fault InvalidOperand) cpu (Err InvalidOperand) (not_stuffed top.word top.followed.at top.followed.owner stands ne) (refl, refl)

  module _ (one : w.tag ≡ 1) where
    refers : IsReference top.word
    refers = is_reference cpu.core cpu.regs (live_of (here_scene x cpu plan s m t ordered h runs)) top.followed.at top.followed.owner w top.word stands one

    -- a stuffed one stays
    pub stff_stays : (r : Step) (new : Cpu) → ((i : Irw) → IsIrw i → w ≡ irw_word i → ⊥) → Meets x plan s m r cpu new (leaves_cells (here m t q) (cells t) None) → Meets x plan s m r cpu new (on_cells (stff (here m t q)) (here m t q))
    stff_stays r new other i = grind (arith, stuffed, stands, refers)

    module _ (name : Irw) (fits : IsIrw name) (is : w ≡ irw_word name) (c : Couple) (split : c ≡ couple name.couple cpu.regs.level) where
      named_word : top.word ≡ Name name.couple
      named_word = irw_is cpu.core cpu.regs (live_of (here_scene x cpu plan s m t ordered h runs)) top.followed.at top.followed.owner w top.word name stands refers fits is

      place_is : place_of (here m t q) top.word ≡ named (here m t q) c
      place_is =
          let N : Couple → Answer (ℕ × ℕ) = λ z. named (here m t q) z in
          ap (place_of (here m t q)) named_word ∙ ap N (sym (split ∙ ap (couple name.couple) (level_is cpu.core cpu.regs (here_scene x cpu plan s m t ordered h runs))))

      -- the cell that the word names
      pub named_found : (found : ℕ) → NamesCell cpu.core cpu.regs cpu.display w found → FindsCell (here_scene x cpu plan s m t ordered h runs) q (Ok found) (named (here m t q) c)
      named_found found names =
          let scene = here_scene x cpu plan s m t ordered h runs in
          let F : Answer (ℕ × ℕ) → Type 0 = λ p. FindsCell scene q (Ok found) p in
          subst F place_is (names scene q (here_shown x cpu plan s m t ordered h runs) top.followed.at top.followed.owner top.word stands).1

      word_is : stff_word (here m t q) top.word ≡ (named (here m t q) c >>= λ at. cell (here m t q) at.0 at.1 >>= λ v. Ok (Ref at.0 at.1))
      word_is = grind (arith, place_is)

      -- the cell isn't there
      fault_by : (fault : Fault) (p : Answer (ℕ × ℕ)) → FindsCell (here_scene x cpu plan s m t ordered h runs) q (Err fault) p → (p >>= λ at. cell (here m t q) at.0 at.1 >>= λ v. Ok (Ref at.0 at.1)) ≡ Err fault
      fault_by fault (Err y) i = (let e : y ≡ fault = cc in ap Err e)
      fault_by fault (Ok at) i = grind arith

      pub stff_fault : (fault : Fault) → FindsCell (here_scene x cpu plan s m t ordered h runs) q (Err fault) (named (here m t q) c) → Meets x plan s m (step.Fault fault) cpu cpu (on_cells (stff (here m t q)) (here m t q))
      stff_fault fault i = by_word (step.Fault fault) cpu (Err fault) (word_is ∙ fault_by fault (named (here m t q) c) i) (refl, refl)

      -- it is there: at a level up to the running one
      pub level_low : (found : ℕ) → FindsCell (here_scene x cpu plan s m t ordered h runs) q (Ok found) (named (here m t q) c) → c.level ≤ cpu.regs.level
      level_low found i = ⊎_elim
          (λ (high : cpu.regs.level < c.level). absurd (let F : Answer (ℕ × ℕ) → Type 0 = λ p. FindsCell (here_scene x cpu plan s m t ordered h runs) q (Ok found) p in
          let z = subst F (named_above cpu.core cpu.regs (here_scene x cpu plan s m t ordered h runs) q cpu.display (here_shown x cpu plan s m t ordered h runs) c high) i in let b : ⊥ = cc in b))
          (λ (low : c.level ≤ cpu.regs.level). low)
          (cases_lt cpu.regs.level c.level)

      pub frame_named : c.level ≤ cpu.regs.level → NamesEntered (reach_of m.progress.job t) (frame_at (here m t q) c.level).identity × (get_or cpu.display c.level 0 ≡ frame_address plan m t (frame_at (here m t q) c.level).identity)
      frame_named low = (
        names_level cpu.core cpu.regs (here_scene x cpu plan s m t ordered h runs) q cpu.display (here_shown x cpu plan s m t ordered h runs) c low,
        display_at cpu.core cpu.regs (here_scene x cpu plan s m t ordered h runs) q cpu.display (here_shown x cpu plan s m t ordered h runs) c low,
      )

      found_by : (found f d : ℕ) → CellMeets (here_scene x cpu plan s m t ordered h runs) q f d (Ok found) (cell (here m t q) f d) → (cell (here m t q) f d >>= λ v. Ok (Ref f d)) ≡ Ok (Ref f d)
      found_by found f d i = grind arith

      -- the stuffed reference in its place
      pub stff_done : (r : Step) (new : Cpu) (found : ℕ) (k : Sirw) (v : Tagged) → (i : FindsCell (here_scene x cpu plan s m t ordered h runs) q (Ok found) (named (here m t q) c))
          → k ≡ record { stack = (view (here_scene x cpu plan s m t ordered h runs) (frame_at (here m t q) c.level).identity).stack; disp = (view (here_scene x cpu plan s m t ordered h runs) (frame_at (here m t q) c.level).identity).disp; offset = c.disp }
          → v ≡ sirw_word k → Replaces x cpu plan s m t q 1 v r new → Meets x plan s m r cpu new (on_cells (stff (here m t q)) (here m t q))
      stff_done r new found k v i spot made replaces =
          let f = (frame_at (here m t q) c.level).identity in
          let at = named_at cpu.core cpu.regs (here_scene x cpu plan s m t ordered h runs) q cpu.display (here_shown x cpu plan s m t ordered h runs) c (level_low found i) in
          let F : Answer (ℕ × ℕ) → Type 0 = λ p. FindsCell (here_scene x cpu plan s m t ordered h runs) q (Ok found) p in
          let there = subst F at i in
          let S : Answer (ℕ × ℕ) → Answer Word = λ p. p >>= λ z. cell (here m t q) z.0 z.1 >>= λ u. Ok (Ref z.0 z.1) in
          let e : stff_word (here m t q) top.word ≡ Ok (Ref f c.disp) = word_is ∙ ap S at ∙ found_by found f c.disp there in
          let plain : is_original top.word ≡ false = (let z : is_original (Name name.couple) ≡ false = refl in subst (λ (u : Word). is_original u ≡ false) (sym named_word) z) in
          by_word r new (Ok (Ref f c.disp)) e (replaces (top.word ∷ []) top.rest (Ref f c.disp) top.is refl (plain, tt) tt (made ∙ ap sirw_word spot, λ z. omega (arith, z)))
