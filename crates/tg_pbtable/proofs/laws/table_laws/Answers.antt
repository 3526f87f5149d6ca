use Rattle.std.proofs.Common.{ℕ, List}
use Rattle.tg_pbtable.specs.Laws.{MessageLaws, ValueLaws, LastLaws, WritingLaws}
use Rattle.tg_pbtable.proofs.Spellings.{one_reading, one_text}
use Rattle.tg_pbtable.proofs.Causes.{one_cause, no_cause, fault_place}
use Rattle.tg_pbtable.proofs.Tables.{table_of}
use Rattle.tg_pbtable.proofs.Emitting.{texts_append, texts_bytes, emitted}
use Rattle.tg_pbtable.proofs.Lasts.{later_more, at_most_one, exactly_one, first_listed, first_alone, listed_same}
use Rattle.tg_pbtable.proofs.ComputedFields.{fields_law, fault_law}
use Rattle.tg_pbtable.proofs.Values.{numbers_append, bytes_append, numbers_here, bytes_here, bytes_other, no_numbers_in, no_bytes_in, values_count, all_numbers, all_bytes, values_of_same, values_by_rules, ascending, any_order}
use Rattle.tg_pbtable.proofs.laws.table_laws.Goals as goal

message_laws : MessageLaws
message_laws = record {
  table = table_of;
  one_reading = one_reading;
  one_cause = one_cause;
  no_cause = no_cause;
  place = fault_place;
  computed = fields_law;
  computed_fault = fault_law;
  one_text = one_text;
  ascending = ascending;
  any_order = any_order;
}

value_laws : ValueLaws
value_laws = record {
  numbers_append = numbers_append;
  bytes_append = bytes_append;
  numbers_here = numbers_here;
  bytes_here = bytes_here;
  bytes_other = bytes_other;
  no_numbers = no_numbers_in;
  no_bytes = no_bytes_in;
  count = values_count;
  all_numbers = all_numbers;
  all_bytes = all_bytes;
  same = values_of_same;
  by_rules = values_by_rules;
}

last_laws : (A : Type 0) → LastLaws A
last_laws A = record { later_more = later_more; at_most_one = at_most_one; exactly_one = exactly_one; first_listed = first_listed; first_alone = first_alone; listed_same = listed_same }

writing_laws : WritingLaws
writing_laws = record { append = texts_append; are_bytes = texts_bytes; message = emitted }

pub returns : goal.returns
returns c = record { messages = message_laws; values = value_laws; last_number = last_laws ℕ; last_bytes = last_laws (List ℕ); writing = writing_laws }
