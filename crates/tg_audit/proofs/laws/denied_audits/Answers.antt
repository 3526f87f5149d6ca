use Rattle.tg_audit.proofs.Denials.{denials}
use Rattle.tg_audit.proofs.laws.denied_audits.Goals as goal

pub returns : goal.returns
returns c = denials c.own_queries.ensures.answered c.own_queries.ensures.refused c.attached_packs.ensures.collides c.attached_packs.ensures.holds c.good_names.ensures c.paths.ensures c.file_sizes.ensures
    (record {
      blocks = record { room = c.written_nodes.ensures.room; one_node = c.one_text.ensures.one_node; one_unix = c.one_data.ensures };
      totals = c.file_sizes.ensures;
      cut = c.cut_traversals.ensures.cut;
      alike = c.paths.ensures;
      text = c.traversals.ensures.text;
    })
    (record { room = c.written_nodes.ensures.room; one_node = c.one_text.ensures.one_node; one_unix = c.one_data.ensures })
    c.one_cause.ensures.none c.spelling_laws.ensures c.one_spelling.ensures c.traversals.ensures.everything
