use Rattle.std.proofs.Common.{rules, ◌≡◌, ℕ, ◌++◌, length, take, drop, Bool, List, false, sym, ◌∙◌, ap, subst}
use Rattle.std.proofs.lemmas.List.{length-replicate}
use Rattle.b67_word.specs.Tagged.{Tagged}
use Rattle.b67_backing.specs.Links.{AreLed}
use Rattle.b67_lemmas.proofs.Places.{came_back}
use Rattle.b67_image_shape.specs.AreaWalk.{AreasWalked}
use Rattle.b67_image_shape.proofs.objects.are_kept.Goals as goal

-- the areas that were walked, by a table that was lent
walked_lent : (core : List Tagged) (low : ℕ) (kinds : List ℕ) (table housed : List Bool) (len : ℕ) → len ≡ length table → length table ≡ length core → AreasWalked core low kinds housed → AreasWalked core low kinds (take len (housed ++ drop (length housed) table))
walked_lent core low kinds table housed len is many w = subst (AreasWalked core low kinds) (sym (ap (λ n. take n (housed ++ drop (length housed) table)) is ∙ came_back table housed (w.many ∙ sym many))) w

pub returns-then-not-walk_areas-clause-not : goal.returns-then-not-walk_areas-clause-not
returns-then-not-walk_areas-clause-not c = λ k. c.if-not-walk_areas.ensures.not k.areas

pub kept_by_marks-requires-clause-judged : goal.kept_by_marks-requires-clause-judged
kept_by_marks-requires-clause-judged c =
    let many = ap length (c.in_ok-housed.ensures.items_if_clones_equal (λ y e. e)) ∙ length-replicate c.size.result false ∙ c.size.ensures.value in
    record {
      kinds = c.requires.kinds;
      codes = c.requires.codes;
      walked = subst (AreasWalked c.args.core.now c.args.low c.args.kinds.now) (sym c.as_slice.ensures.value)
          (walked_lent c.args.core.now c.args.low c.args.kinds.now c.in_ok-housed.housed.items c.walk_areas.new.housed c.in_ok-housed.housed.len (search rules) many c.if-not-walk_areas.ensures.yes);
      links = c.requires.links;
      led = subst (AreLed c.args.links.now) (sym c.as_slice-2.ensures.value) c.in_ok-led.ensures;
    }

pub returns-clause-yes : goal.returns-clause-yes
returns-clause-yes c = c.kept_by_marks.ensures.yes

pub returns-clause-not : goal.returns-clause-not
returns-clause-not c = c.kept_by_marks.ensures.not
