use Rattle.std.proofs.Common.{is_some, sym, ap, ◌∙◌}
use Rattle.indexmap.proofs.CallerLemmas.{insert_entry-new}
use Rattle.b67_model_text.specs.Asm.{meaning}
use Rattle.b67_asm.specs.Names.{name_entries}
use Rattle.b67_asm.proofs.NamesLaw.{lookup_seen, known_name, copied_some, name_behind, none_copied}
use Rattle.b67_asm.proofs.names.define.Goals as goal

pub returns-then-is_some : goal.returns-then-is_some
returns-then-is_some c = λ q. known_name (name_entries c.args.names.now.entries) c.args.name.now c.args.named (sym (ap is_some (c.get.ensures.value ∙ lookup_seen c.args.name.now c.args.names.now.entries)) ∙ copied_some c.get.result ∙ sym c.if-is_some.ensures) q

pub returns-in-Ok : goal.returns-in-Ok
returns-in-Ok c = λ q.
    ap (λ es. meaning (name_entries es) q) (c.in-Ok.ensures.entries ∙ insert_entry-new _ c.args.names.now c.args.name c.args.named (sym c.get.ensures.value ∙ none_copied c.get.result (sym c.if-is_some.ensures))) ∙ name_behind q c.args.names.now.entries c.args.name c.args.named
