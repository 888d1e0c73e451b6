use Rattle.std.proofs.Common.{is_some, sym, ap, ◌∙◌}
use Rattle.indexmap.proofs.CallerLemmas.{insert_entry-new}
use Rattle.b67_model_text.specs.Asm.{meaning}
use Rattle.b67_asm.specs.Names.{label_entries}
use Rattle.b67_asm.proofs.NamesLaw.{lookup_seen, known_name, copied_some, name_behind, none_copied}
use Rattle.b67_asm.proofs.names.define_at.Goals as goal

pub returns-then-is_some : goal.returns-then-is_some
returns-then-is_some c = λ q. known_name (label_entries c.args.labels.now.entries) c.args.label.now c.args.syllable (sym (ap is_some (c.get.ensures.value ∙ lookup_seen c.args.label.now c.args.labels.now.entries)) ∙ copied_some c.get.result ∙ sym c.if-is_some.ensures) q

pub returns-in-Ok : goal.returns-in-Ok
returns-in-Ok c = λ q.
    ap (λ es. meaning (label_entries es) q) (c.in-Ok.ensures.entries ∙ insert_entry-new _ c.args.labels.now c.args.label c.args.syllable (sym c.get.ensures.value ∙ none_copied c.get.result (sym c.if-is_some.ensures))) ∙ name_behind q c.args.labels.now.entries c.args.label c.args.syllable
