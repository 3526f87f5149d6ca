-- Data gathered from the fields of a message has them as its parts.
use Rattle.std.proofs.Common.{◌≡◌, ℕ, ◌≤◌, Some, List, [], ◌∷◌, ◌++◌, sym, ap, ◌∙◌, append_assoc, arith}
use Rattle.tg_pbtable.specs.declared.table.Field.{Field}
use Rattle.tg_pbtable.specs.declared.table.Order.TheVariants.{Ascending}
use Rattle.tg_pbtable.specs.Message.{Message, count_of}
use Rattle.tg_unixfs.specs.declared.TheConstants.{DATA}
use Rattle.tg_unixfs.specs.declared.Unix.{Unix}
use Rattle.tg_pbtable.specs.Values.{numbers_at, bytes_at}
use Rattle.tg_pbtable.specs.Laws.{TableLaws}
use Rattle.tg_pbtable.specs.TableRules.{any_rule, rule_at}
use Rattle.tg_unixfs.specs.Unix.{HasParts}
use Rattle.tg_unixfs.specs.Reading.{Gathers, nothing}
use Rattle.tg_unixfs.proofs.Parts.{data_table}

pub gathers_more : (laws : TableLaws) → (text : List ℕ) (fs : List Field) (f : Field) (a b c : Unix) → Gathers text fs a b → Gathers text (f ∷ []) b c → Gathers text (fs ++ f ∷ []) a c
gathers_more laws text fs f a b c p q =
    let one = f ∷ [] in
    record {
      kind = laws.last_number.later_more (Some a.kind) (Some b.kind) (Some c.kind) (numbers_at 1 fs) (numbers_at 1 one) (numbers_at 1 (fs ++ one)) (laws.values.numbers_append 1 fs one) p.kind q.kind;
      inline = laws.last_bytes.later_more a.inline b.inline c.inline (bytes_at text 2 fs) (bytes_at text 2 one) (bytes_at text 2 (fs ++ one)) (laws.values.bytes_append text 2 fs one) p.inline q.inline;
      filesize = laws.last_number.later_more a.filesize b.filesize c.filesize (numbers_at 3 fs) (numbers_at 3 one) (numbers_at 3 (fs ++ one)) (laws.values.numbers_append 3 fs one) p.filesize q.filesize;
      sizes = q.sizes ∙ ap (λ (t : List ℕ). t ++ numbers_at 4 one) p.sizes ∙ append_assoc a.sizes (numbers_at 4 fs) (numbers_at 4 one) ∙ ap (λ (t : List ℕ). a.sizes ++ t) (sym (laws.values.numbers_append 4 fs one));
      hash = laws.last_number.later_more a.hash b.hash c.hash (numbers_at 5 fs) (numbers_at 5 one) (numbers_at 5 (fs ++ one)) (laws.values.numbers_append 5 fs one) p.hash q.hash;
      fanout = laws.last_number.later_more a.fanout b.fanout c.fanout (numbers_at 6 fs) (numbers_at 6 one) (numbers_at 6 (fs ++ one)) (laws.values.numbers_append 6 fs one) p.fanout q.fanout;
    }

pub gathered_parts : (laws : TableLaws) → (text : List ℕ) (fs : List Field) (u : Unix) → Message DATA.now Ascending text fs → Gathers text fs nothing u → HasParts text fs u
gathered_parts laws text fs u m g =
    let one : count_of fs 1 ≡ 1 = m.counts 0 any_rule (omega arith) in
    let two : count_of fs 2 ≤ 1 = m.counts 1 any_rule (omega arith) in
    let three : count_of fs 3 ≤ 1 = m.counts 2 any_rule (omega arith) in
    let five : count_of fs 5 ≤ 1 = m.counts 4 any_rule (omega arith) in
    let six : count_of fs 6 ≤ 1 = m.counts 5 any_rule (omega arith) in
    record {
      kind = laws.last_number.exactly_one 0 (numbers_at 1 fs) u.kind (laws.values.all_numbers DATA.now 1 fs (data_table laws) (rule_at DATA.now 0 (omega arith)) m.ruled ∙ one) g.kind;
      inline = laws.last_bytes.at_most_one (bytes_at text 2 fs) u.inline (omega (arith, laws.values.count text 2 fs)) g.inline;
      filesize = laws.last_number.at_most_one (numbers_at 3 fs) u.filesize (omega (arith, laws.values.count text 3 fs)) g.filesize;
      sizes = sym g.sizes;
      hash = laws.last_number.at_most_one (numbers_at 5 fs) u.hash (omega (arith, laws.values.count text 5 fs)) g.hash;
      fanout = laws.last_number.at_most_one (numbers_at 6 fs) u.fanout (omega (arith, laws.values.count text 6 fs)) g.fanout;
    }
