-- References lead where they lead, whatever the tasks wait for.
use Rattle.std.proofs.Common.{◌≡◌, ℕ, zero, suc, ◌-◌, List, length, Ok, Err, refl, ◌∙◌, ap, unwrap_or, arith}
use Rattle.std.specs.Prelude.{if◌then◌else◌, nat_le, nat_lt, ok_or}
use Rattle.b67_word.specs.Couples.{couple}
use Rattle.b67_word.specs.declared.couples.Couple.{Couple}
use Rattle.b67_word.specs.declared.faults.Fault.TheVariants.{InvalidAddress, InvalidIndex}
use Rattle.b67_model.specs.Common.{Answer, Word, Operand, Name, Ref, Row, Element, Original, Proc, Intrinsic, Frame, Array, OperatorContext, no_frame, all_frames, frame, no_array, environment_of, level_of_frame, running, outward, running_level, cell_of, cell, named, place_of, End, AtElement, Link, Stops, Leads, element_end, link_in, link_from, link, chase_on, follow}
use Rattle.b67_model.specs.Keyed.{keyed}
use Rattle.b67_model.specs.Words as Words
use Rattle.b67_model.specs.declared.limits.TheConstants.{MOST_LINKS}

module _ (h k : OperatorContext) (frames : all_frames h ≡ all_frames k) (own : h.task.frames ≡ k.task.frames) where
  pub frame_same : (id : ℕ) → frame h id ≡ frame k id
  frame_same id = ap (λ (fs : List Frame). unwrap_or (keyed (λ (f : Frame). f.identity) id fs) no_frame) frames

  outward_same : (links : ℕ) (f : Frame) → outward h links f ≡ outward k links f
  outward_same zero f = refl
  outward_same (suc links) f = ap (outward h links) (frame_same (environment_of f.standing)) ∙ outward_same links (frame k (environment_of f.standing))

  level_same : running_level h ≡ running_level k
  level_same = ap (λ (fs : List Frame). level_of_frame (running fs)) own

  named_same : (c : Couple) → named h c ≡ named k c
  named_same c = grind arith

  place_same : (w : Word) → place_of h w ≡ place_of k w
  place_same (Name bits) = ap (λ (l : ℕ). named h (couple bits l)) level_same ∙ named_same (couple bits (running_level k))
  place_same (Ref f offset) = refl
  place_same (Operand bits) = refl
  place_same (Row a) = refl
  place_same (Element a index) = refl
  place_same (Original a) = refl
  place_same (Proc segment level place) = refl
  place_same (Intrinsic number) = refl
  place_same (Words.Segment number) = refl

  cell_same : (f offset : ℕ) → cell h f offset ≡ cell k f offset
  cell_same f offset = ap (λ (g : Frame). ok_or (cell_of g offset) InvalidAddress) (frame_same f)

  -- if the arrays are the same too, for an index is tested against its array's length
  module _ (arrays : h.job.arrays ≡ k.job.arrays) where
    item_same : (a index : ℕ) → element_end h a index ≡ element_end k a index
    item_same a index = grind arith

    in_same : (f offset : ℕ) (a : Answer Word) → link_in h f offset a ≡ link_in k f offset a
    in_same f offset a = grind arith

    from_same : (at : Answer (ℕ × ℕ)) → link_from h at ≡ link_from k at
    from_same at = grind (arith, in_same)

    link_same : (w : Word) → link h w ≡ link k w
    link_same w = ap (link_from h) (place_same w) ∙ from_same (place_of k w)

    on_same : (links : ℕ) (l : Link) → chase_on h links l ≡ chase_on k links l
    on_same links (Stops end) = refl
    on_same zero (Leads w) = refl
    on_same (suc links) (Leads w) = ap (chase_on h links) (link_same w) ∙ on_same links (link k w)

    pub follow_same : (w : Word) → follow h w ≡ follow k w
    follow_same (Name bits) = on_same MOST_LINKS (Leads (Name bits))
    follow_same (Ref f offset) = on_same MOST_LINKS (Leads (Ref f offset))
    follow_same (Element a index) = item_same a index
    follow_same (Operand bits) = refl
    follow_same (Row a) = refl
    follow_same (Original a) = refl
    follow_same (Proc segment level place) = refl
    follow_same (Intrinsic number) = refl
    follow_same (Words.Segment number) = refl
