use Rattle.std.proofs.Common.{◌≡◌, ℕ, false, true, ◌∙◌, length, sym, ap, refl, arith}
use Rattle.std.proofs.lemmas.List.{length-map}
use Rattle.b67_word.specs.Tagged.{Tagged, contents}
use Rattle.b67_area.specs.declared.Kind.TheVariants.{Row}
use Rattle.b67_ctl.specs.Descriptors.{data_word}
use Rattle.b67_backing.specs.Held.{sectors_for}
use Rattle.b67_load.proofs.Writing.{spares_taken, written, words_back, word_set, outside_set}
use Rattle.b67_load.proofs.installing.install_row.Goals as goal

pub returns-in_err-first-clause-spares : goal.returns-in_err-first-clause-spares
returns-in_err-first-clause-spares g c =
    spares_taken g.B.Backing.holds c.args.at (sectors_for (length c.as_slice-words.result.now)) _ _ (λ i h. refl) refl c.store_words.ensures.count (omega (arith, c.requires.within.some, ap length c.as_slice-words.ensures)) (omega (arith, ap length c.as_slice-words.ensures, c.requires.sectors.room)) c.store_words.ensures.shelf c.store_words.ensures.others

pub returns-clause-writes : goal.returns-clause-writes
returns-clause-writes g c =
    let e = c.as_slice-words.ensures in
    let long : length (contents c.args.row.now) ≡ length c.as_slice-words.result.now = length-map c.args.row.now (λ (w : Tagged). w.bits) ∙ ap length (sym e) in
    written g.B.Backing.holds (record { home = c.args.at; kind = Row; numbers = contents c.args.row.now }) c.as_slice-words.result.now c.in_ok-first.first _ _ c.requires.sectors.known
    (words_back 0 c.args.row.now c.requires.within.each ∙ sym e) long (omega (arith, c.requires.within.some, ap length e)) (omega (arith, ap length e, c.requires.sectors.room))
    c.store_words.ensures.shelf c.in_ok-first.ensures.stores c.in_ok-first.ensures.first
    (word_set c.args.core.now c.set.new.self c.args.at c.word.result _ c.requires.inside c.set.ensures.value (c.word.ensures ∙ ap (λ (n : ℕ). data_word (record { present = false; copy = false; indexed = false; read_only = true; length = n; address = c.in_ok-first.first })) (sym long)))

pub returns-clause-spares : goal.returns-clause-spares
returns-clause-spares g c =
    spares_taken g.B.Backing.holds c.args.at (sectors_for (length c.as_slice-words.result.now)) _ _ (outside_set c.args.core.now c.set.new.self c.args.at c.word.result c.set.ensures.value) c.set.ensures.len c.store_words.ensures.count (omega (arith, c.requires.within.some, ap length c.as_slice-words.ensures)) (omega (arith, ap length c.as_slice-words.ensures, c.requires.sectors.room)) c.store_words.ensures.shelf c.store_words.ensures.others
