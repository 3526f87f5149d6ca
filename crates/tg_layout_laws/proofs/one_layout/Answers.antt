use Rattle.std.proofs.Common.{sym, ◌∙◌}
use Rattle.tg_layout_laws.proofs.PayloadBytes.{bits_bytes}
use Rattle.tg_layout_laws.proofs.OneFile.{same_files}
use Rattle.tg_layout_laws.proofs.SameDirs.{same_top}
use Rattle.tg_layout_laws.proofs.ShardBits.{same_bits}
use Rattle.tg_layout_laws.proofs.one_layout.Goals as goal

pub returns-clause-one : goal.returns-clause-one
returns-clause-one c = λ options tree d e sound other laid laid_other.
    same_top
    (record {
      texts = record {
        one_kind = c.readings.ensures.one_kind;
        one_node = c.one_text.ensures.one_node;
        one_block = c.one_text.ensures.canonical;
        one_unix = c.one_data.ensures;
        one_payload = c.one_text-2.ensures;
        one_spelling = λ cid u v. c.one_spelling.ensures.one_bytes cid u v;
        digest_size = c.digest_laws.ensures.size;
      };
      faultless = c.placed_shards.ensures;
      one_bits = λ s t ss ts a b h k numbers.
          same_bits
          (record { first = c.big_endians.ensures.first; most = c.big_endians.ensures.below })
          h.bits k.bits
          (bits_bytes h.bits h.written.payload h.written.unix_is.is_text)
          (bits_bytes k.bits k.written.payload k.written.unix_is.is_text)
          h.bits_are.shortest k.bits_are.shortest
          (h.bits_are.used ∙ numbers ∙ sym k.bits_are.used);
    })
    options d e tree
    (record { checked = sound.checked; laid = laid.laid; plain = laid.plain })
    (record { checked = other.checked; laid = laid_other.laid; plain = laid_other.plain })
    laid.shows laid_other.shows

pub returns-clause-file : goal.returns-clause-file
returns-clause-file c = λ options d e sound other file file_other laid laid_other plain plain_other same.
    same_files
    (record {
      one_kind = c.readings.ensures.one_kind;
      one_node = c.one_text.ensures.one_node;
      one_block = c.one_text.ensures.canonical;
      one_unix = c.one_data.ensures;
      one_payload = c.one_text-2.ensures;
      one_spelling = λ cid u v. c.one_spelling.ensures.one_bytes cid u v;
      digest_size = c.digest_laws.ensures.size;
    })
    options d e
    (record { checked = sound.checked; laid = laid; file = file; plain = plain })
    (record { checked = other.checked; laid = laid_other; file = file_other; plain = plain_other })
    same
