-- Stores and loads through references that need no search, as the rows of their operators.
use Rattle.std.proofs.Common.{◌≡◌, ℕ, Bool, true, false, List, [], ◌∷◌, ◌++◌, length, Ok, refl, sym, subst}
use Rattle.b67_word.specs.Tagged.{Tagged}
use Rattle.b67_word.specs.declared.couples.Place.{Place}
use Rattle.b67_model.specs.declared.operators.Code.TheVariants as codes
use Rattle.b67_model.specs.declared.operators.Op.TheVariants.{Plain}
use Rattle.b67_model.specs.Chase as Chase
use Rattle.b67_model.specs.Common.{Answer, ◌>>=◌, Session, SessionJob, Task, Word, cells_of, follow}
use Rattle.b67_model.specs.Rows as rows
use Rattle.b67_stack.specs.declared.Cpu.{Cpu}
use Rattle.b67_stack.specs.declared.Step.{Step}
use Rattle.b67_stack.specs.declared.Step.TheVariants.{Done}
use Rattle.b67_stack.specs.Represents.{Storage}
use Rattle.b67_layout.specs.Common.{ForEach, here, IsInOrderButCounts, IsMade, IsRunning, Meets, Placement, RepresentsSession, RunsSome, cells}
use Rattle.b67_layout.specs.Tops.{GivesTop}
use Rattle.b67_refer.specs.declared.ends.End.TheVariants as end
use Rattle.b67_refer.specs.Own.{LeadsTo}
use Rattle.b67_exec_cells.specs.Tops.{NoOriginals, StaysInSegment}
use Rattle.b67_fetch.specs.Fetches.{FindsEnd, IsEnd, SomeEnd, EntersOrMeets, is_procedure_end, value_at_end}
use Rattle.b67_fetch.proofs.Values.{here_scene, here_shown, followed_stands, finds_end, some_end, top_followed, followed_plain, load_row}
use Rattle.b67_exec.specs.Operators.{store_code}
use Rattle.b67_exec.specs.Far.{RowAnswers, RowMade}
use Rattle.b67_exec.proofs.Entered.{met_at}

module _ (next : Place) (old new : Cpu) where
  -- what a store answers is the row of STOD or STON
  pub store_answers : (keeps : Bool) (answered : Step) → ForEach old (λ x plan s m t. Meets x plan s m answered old new (rows.store keeps (here m t next) (cells_of (here m t next)))) → RowAnswers (Plain (store_code keeps)) next old new answered
  store_answers true answered each = each
  store_answers false answered each = each

  -- so is what it made by a short way
  pub store_made : (keeps : Bool) → ForEach old (λ x plan s m t. IsMade x plan s m old new (rows.store keeps (here m t next) (cells_of (here m t next)))) → StaysInSegment old new next
      → RowMade (Plain (store_code keeps)) next old new × StaysInSegment old new next
  store_made keeps each stays = (store_answers keeps Done each, stays)

-- LOAD where the top cell leads to an operand's cell
module _ (old : Cpu) (next : Place) (w : Tagged) (at : ℕ) (leads : LeadsTo old.core old.regs old.display w (end.Cell at)) where
  finds : (x : Storage) (plan : Placement) (s : Session) (m : SessionJob) (t : Task) (o : IsInOrderButCounts s) (h : RepresentsSession x old plan s) (runs : IsRunning plan s.jobs m t) (given : GivesTop x plan m t old (cells t) (Ok w))
      → FindsEnd plan m old.core (Ok (end.Cell at)) (follow (here m t next) (top_followed x old plan s m t w o runs given).word)
  finds x plan s m t o h runs given =
      let a = top_followed x old plan s m t w o runs given in
      let i = a.followed in
      finds_end x old plan s m t o h runs next (Ok (end.Cell at)) (follow (here m t next) a.word)
      (leads (here_scene x old plan s m t o h runs) next (here_shown x old plan s m t o h runs) i.at i.owner a.word (followed_stands x old plan s m t o h runs w a.word i))

  pub loads_end : (q : RunsSome old) → GivesTop q.storage q.plan q.member q.task old (cells q.task) (Ok w) → SomeEnd old (end.Cell at)
  loads_end q given =
      some_end old q (end.Cell at) (follow (here q.member q.task next) (top_followed q.storage old q.plan q.session q.member q.task w q.ordered q.running given).word)
      (finds q.storage q.plan q.session q.member q.task q.ordered q.stands q.running given)

  pub own_loads : ForEach old (λ x plan s m t. GivesTop x plan m t old (cells t) (Ok w)) → (answered : Step) (new : Cpu)
      → ForEach old (λ x plan s m t. (gone rest : List Word) (e : Chase.End) → cells t ≡ gone ++ rest → length gone ≡ 1 → NoOriginals gone → IsEnd plan m old.core (end.Cell at) e
      → EntersOrMeets x plan s m answered old new (is_procedure_end e) (value_at_end (here m t next) rest e)) → RowAnswers (Plain codes.Load) next old new answered
  own_loads given answered new pushes x plan s m t o h runs =
      let g = given x plan s m t o h runs in
      let a = top_followed x old plan s m t w o runs g in
      let e : Answer Chase.End = follow (here m t next) a.word in
      let k = finds x plan s m t o h runs g in
      let P : List Word → Type 0 = λ cs. Meets x plan s m answered old new (rows.load (here m t next) cs) in
      subst P (sym a.is)
      (met_at x plan s m answered old new (end.Cell at) e (e >>= λ f. rows.load_at (here m t next) a.rest f) k (λ cell z. let n : ⊥ = cc in n)
      (load_row x plan s m t next old a.rest answered new (end.Cell at) e k (λ original z. let n : ⊥ = cc in n)
      (λ f found is. pushes x plan s m t o h runs (a.word ∷ []) a.rest f a.is refl (followed_plain x m t next a.word f found, tt) is)))
