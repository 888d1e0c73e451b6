-- The array that a word names, a reference leads to, or an end is in.
use Rattle.std.proofs.Common.{ltb, ◌≡◌, ℕ, zero, suc, List, [], ◌∷◌, flat_map, length, Option, Some, None, unwrap_or, Ok, refl, subst, inl, inr, ◌⊎◌, arith}
use Rattle.b67_model.specs.Common.{Answer, array, array_at, array_of, index_below, indexed, Word, Operand, Name, Ref, Row, Element, Original, Proc, Intrinsic, operand, number, Frame, Task, OperatorContext, mcp, no_frame, all_frames, frame, top, cell, place_of, End, AtElement, AtArray, Link, Stops, Leads, element_end, link_at, link_in, link_from, link, chase_on, chase, follow}
use Rattle.b67_model.specs.Keyed.{keyed, change_keyed}
use Rattle.b67_lemmas.specs.Lists.{Has}
use Rattle.b67_lemmas.proofs.Members.{all_in, has_append_cases, keyed_has, has_flat_back}
use Rattle.b67_model.specs.Words as Words
use Rattle.b67_law.proofs.Posts.{Post, post_ok, post_err, post_bind, post_any, post_if}
use Rattle.b67_law.proofs.Chases.{cell_has}
use Rattle.b67_model.specs.declared.limits.TheConstants.{MOST_LINKS}

-- a task put in the place of another
pub has_put : (n : ℕ) (new : Task) (ts : List Task) (t : Task) → Has (change_keyed (λ (u : Task). u.number) n (λ (u : Task). new) ts) t → (new ≡ t) ⊎ Has ts t
has_put n new [] t h = absurd h
has_put n new (u ∷ us) t h = grind (arith, has_put n new us t)

-- a fact of the arrays that words name
module _ (T : ℕ → Type 0) where
  abbrev pub Names : Word → Type 0
  Names (Row a) = T a
  Names (Element a index) = T a
  Names (Original a) = T a
  Names _ = Unit {0}

  abbrev pub AllName : List Word → Type 0
  AllName words = (w : Word) → Has words w → Names w

  abbrev pub FramesName : List Frame → Type 0
  FramesName frames = (f : Frame) → Has frames f → AllName f.cells

  -- the words of all frames that the running task could name
  pub record Holds (h : OperatorContext) : Type 0 where
    pub tasks : (t : Task) → Has h.job.tasks t → FramesName t.frames
    pub own : FramesName h.task.frames
    pub dictionary : AllName h.constants.dictionary.cells

  pub top_names : (frames : List Frame) → FramesName frames → AllName (top frames).cells
  top_names frames all w k = grind arith

  pub tail_names : (w : Word) (words : List Word) → AllName (w ∷ words) → AllName words
  tail_names w words all v k = all v (inr k)

  mcp_names : AllName mcp.cells
  mcp_names w k = all_in Names mcp.cells w (tt, (tt, (tt, (tt, (tt, (tt, (tt, (tt, (tt, (tt, (tt, tt))))))))))) k

  frame_names : (h : OperatorContext) → Holds h → FramesName (all_frames h)
  frame_names h s f k = elim (has_append_cases (flat_map (λ (t : Task). t.frames) h.job.tasks) (h.constants.dictionary ∷ mcp ∷ []) f k) [
    | inl m ↦ let r = has_flat_back (λ (t : Task). t.frames) h.job.tasks f m in s.tasks r.item r.among f r.inside
    | inr m ↦ elim m [
      | inl e ↦ subst (λ (x : Frame). AllName x.cells) e s.dictionary
      | inr n ↦ elim n [ inl e ↦ subst (λ (x : Frame). AllName x.cells) e mcp_names | inr x ↦ absurd x ]
    ]
  ]

  found_names : (h : OperatorContext) → Holds h → (n : ℕ) (o : Option Frame) → keyed (λ (f : Frame). f.identity) n (all_frames h) ≡ o → AllName (unwrap_or o no_frame).cells
  found_names h s n None e w k = absurd k
  found_names h s n (Some f) e w k = frame_names h s f (keyed_has (λ (x : Frame). x.identity) n (all_frames h) f e).0 w k

  cell_names : (h : OperatorContext) → Holds h → (n offset : ℕ) (w : Word) → cell h n offset ≡ Ok w → Names w
  cell_names h s n offset w e = found_names h s n (keyed (λ (f : Frame). f.identity) n (all_frames h)) refl w (cell_has (frame h n) offset w e)

  abbrev pub EndNames : End → Type 0
  EndNames (AtElement a index) = T a
  EndNames (AtArray a) = T a
  EndNames _ = Unit {0}

  abbrev LinkNames : Link → Type 0
  LinkNames (Stops end) = Post EndNames end
  LinkNames (Leads w) = Unit {0}

  -- whatever the index is, the array is named
  element_names : (h : OperatorContext) (a index : ℕ) → T a → Post EndNames (element_end h a index)
  element_names h a index g = post_if EndNames (ltb index (length (array h.job a).numbers)) _ _ (post_ok EndNames (AtElement a index) g) (post_err EndNames _)

  link_word : (h : OperatorContext) (f offset : ℕ) (w : Word) → Names w → LinkNames (link_at h f offset w)
  link_word h f offset w g = grind arith

  module _ (h : OperatorContext) (s : Holds h) where
    link_cell : (f offset : ℕ) (a : Answer Word) → cell h f offset ≡ a → LinkNames (link_in h f offset a)
    link_cell f offset a e = grind (arith, link_word, cell_names)

    link_place : (a : Answer (ℕ × ℕ)) → LinkNames (link_from h a)
    link_place a = grind (arith, link_cell)

    chase_links : (links : ℕ) (l : Link) → LinkNames l → Post EndNames (chase_on h links l)
    chase_links links (Stops end) g = g
    chase_links zero (Leads w) g = post_err EndNames _
    chase_links (suc links) (Leads w) g = chase_links links (link h w) (link_place (place_of h w))

    pub chase_names : (w : Word) → Post EndNames (chase h w)
    chase_names w = chase_links MOST_LINKS (Leads w) tt

    pub follow_names : (w : Word) → Names w → Post EndNames (follow h w)
    follow_names (Name couple) g = chase_names (Name couple)
    follow_names (Ref f offset) g = chase_names (Ref f offset)
    follow_names (Element a index) g = element_names h a index g
    follow_names (Operand bits) g = post_err EndNames _
    follow_names (Row a) g = post_err EndNames _
    follow_names (Original a) g = post_err EndNames _
    follow_names (Proc segment level place) g = post_err EndNames _
    follow_names (Intrinsic n) g = post_err EndNames _
    follow_names (Words.Segment n) g = post_err EndNames _

    at_names : (end : End) → EndNames end → Post T (array_at end)
    at_names end g = grind arith

    array_names : (w : Word) → Names w → Post T (array_of h w)
    array_names (Row a) g = post_ok T a g
    array_names (Name couple) g = post_bind EndNames T (chase h (Name couple)) _ (chase_names (Name couple)) at_names
    array_names (Ref f offset) g = post_bind EndNames T (chase h (Ref f offset)) _ (chase_names (Ref f offset)) at_names
    array_names (Operand bits) g = post_err T _
    array_names (Element a index) g = post_err T _
    array_names (Original a) g = post_err T _
    array_names (Proc segment level place) g = post_err T _
    array_names (Intrinsic n) g = post_err T _
    array_names (Words.Segment n) g = post_err T _

    abbrev pub OfPair : (ℕ × ℕ) → Type 0
    OfPair at = T at.0

    pub indexed_names : (r i : Word) → Names r → Post OfPair (indexed h r i)
    indexed_names r i g = post_any OfPair (operand i) _ (λ bits. post_bind T OfPair (array_of h r) _ (array_names r g)
        (λ a is. post_any OfPair (number bits) _ (λ n. post_any OfPair (index_below (length (array h.job a).numbers) n) _ (λ index. post_ok OfPair (a, index) is))))
