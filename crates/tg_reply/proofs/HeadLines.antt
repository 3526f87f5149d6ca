-- A head that is written as lines is a head of the grammar.
use Rattle.std.proofs.Common.{◌≡◌, ℕ, ◌≤◌, All, List, [], ◌∷◌, ◌++◌, Some, codes, length, map, refl, sym, ap, subst, ◌∙◌, arith, append_assoc}
use Rattle.httparse.specs.Ascii.{crlf_bytes}
use Rattle.httparse.specs.Grammar.{AllPass, Field, IsField, IsResponseHead, IsToken, ResponseHead as ReplyTree, crlf, is_value_byte, print_field, print_response}
use Rattle.std.specs.Char.{is_ascii_digit}
use Rattle.std.specs.List.{flat_map}
use Rattle.std.specs.Prelude.{IsTrue}
use Rattle.std.proofs.lemmas.List.{append-nil, length-map}
use Rattle.std.proofs.lemmas.List.Elements.{All-cons, All-map, All-weaker}
use Rattle.std.proofs.lemmas.List.Sums.{AllPass-from_list_all}
use Rattle.tg_http.specs.GrammarLines.{reply_text}
use Rattle.tg_http.specs.HeadText.{HeadText}
use Rattle.tg_http.specs.Heads.{IsReply}
use Rattle.tg_reply.specs.Heads.{NamedValue, digits_of, field_line, head_text, phrase_of}
use Rattle.tg_reply.specs.declared.status.Status.{Status}
use Rattle.tg_reply.specs.declared.status.Status.TheVariants as statuses

-- a field whose name is a token and whose value is bytes of a value
pub record Good (field : NamedValue) : Type 0 where
  pub name : IsToken field.0
  pub value : AllPass is_value_byte field.1

phrase_passes : (status : Status) → AllPass is_value_byte (phrase_of status)
phrase_passes statuses.Ok = AllPass-from_list_all is_value_byte (phrase_of statuses.Ok) refl
phrase_passes statuses.BadRequest = AllPass-from_list_all is_value_byte (phrase_of statuses.BadRequest) refl
phrase_passes statuses.NotFound = AllPass-from_list_all is_value_byte (phrase_of statuses.NotFound) refl
phrase_passes statuses.MethodNotAllowed = AllPass-from_list_all is_value_byte (phrase_of statuses.MethodNotAllowed) refl
phrase_passes statuses.NotAcceptable = AllPass-from_list_all is_value_byte (phrase_of statuses.NotAcceptable) refl
phrase_passes statuses.FieldsTooLarge = AllPass-from_list_all is_value_byte (phrase_of statuses.FieldsTooLarge) refl
phrase_passes statuses.ServerError = AllPass-from_list_all is_value_byte (phrase_of statuses.ServerError) refl

pub digits_pass : (status : Status) → (length (digits_of status) ≡ 3) × AllPass is_ascii_digit (digits_of status)
digits_pass statuses.Ok = (refl, AllPass-from_list_all is_ascii_digit (digits_of statuses.Ok) refl)
digits_pass statuses.BadRequest = (refl, AllPass-from_list_all is_ascii_digit (digits_of statuses.BadRequest) refl)
digits_pass statuses.NotFound = (refl, AllPass-from_list_all is_ascii_digit (digits_of statuses.NotFound) refl)
digits_pass statuses.MethodNotAllowed = (refl, AllPass-from_list_all is_ascii_digit (digits_of statuses.MethodNotAllowed) refl)
digits_pass statuses.NotAcceptable = (refl, AllPass-from_list_all is_ascii_digit (digits_of statuses.NotAcceptable) refl)
digits_pass statuses.FieldsTooLarge = (refl, AllPass-from_list_all is_ascii_digit (digits_of statuses.FieldsTooLarge) refl)
digits_pass statuses.ServerError = (refl, AllPass-from_list_all is_ascii_digit (digits_of statuses.ServerError) refl)

-- the fields and the head as trees of the grammar
abbrev pub tree_field : NamedValue → Field
tree_field field = record { name = field.0; raw = 32 ∷ field.1; end = crlf }

abbrev pub tree_of : Status → List NamedValue → ReplyTree
tree_of status fields = record {
  blank = [];
  minor = 1;
  digits = digits_of status;
  reason = Some (phrase_of status);
  line_end = crlf;
  fields = map tree_field fields;
  last = crlf;
}

printed_field : (name value rest : List ℕ) → print_field (tree_field (name, value)) ++ rest ≡ field_line (name, value) ++ rest
printed_field name value rest = simp (append_assoc)

printed_fields : (fields : List NamedValue) → flat_map print_field (map tree_field fields) ≡ flat_map field_line fields
printed_fields [] = refl
printed_fields (field ∷ fields) =
    printed_field field.0 field.1 (flat_map print_field (map tree_field fields)) ∙ ap (λ (l : List ℕ). field_line field ++ l) (printed_fields fields)

printed_head : (digits phrase section : List ℕ)
    → codes "HTTP/1.1 " ++ (digits ++ (32 ∷ (phrase ++ (crlf_bytes ++ section))))
    ≡ [] ++ codes "HTTP/1.1" ++ 32 ∷ digits ++ 32 ∷ phrase ++ crlf_bytes ++ section
printed_head digits phrase section = simp (append_assoc)

is_printed : (status : Status) (fields : List NamedValue) → head_text status fields ≡ print_response (tree_of status fields)
unfolding print_response
is_printed status fields =
    ap (λ (l : List ℕ). codes "HTTP/1.1 " ++ (digits_of status ++ (32 ∷ (phrase_of status ++ (crlf_bytes ++ (l ++ crlf_bytes))))))
    (sym (printed_fields fields))
    ∙ printed_head (digits_of status) (phrase_of status) (flat_map print_field (map tree_field fields) ++ crlf_bytes)

tree_is_field : (field : NamedValue) → Good field → IsField (tree_field field)
tree_is_field field good = record { name = good.name; raw = All-cons (λ (b : ℕ). IsTrue (is_value_byte b)) 32 field.1 refl good.value }

is_grammatical : (status : Status) (fields : List NamedValue) → All Good fields → IsResponseHead (tree_of status fields)
is_grammatical status fields good = record {
  minor = omega arith;
  digits = digits_pass status;
  reason = phrase_passes status;
  fields = All-map IsField tree_field fields (All-weaker Good (λ (f : NamedValue). IsField (tree_field f)) tree_is_field fields good);
}

is_head_text : (status : Status) (fields : List NamedValue) → All Good fields → HeadText (head_text status fields) (length fields)
is_head_text status fields good =
    subst (λ (l : List ℕ). HeadText l (length fields)) (sym (is_printed status fields))
    (subst (HeadText (print_response (tree_of status fields))) (length-map fields tree_field) (reply_text (tree_of status fields) (is_grammatical status fields good)))

pub is_reply : (status : Status) (fields : List NamedValue) (rest : List ℕ) → All Good fields → length fields ≤ 64 → length (head_text status fields) ≤ 16384
    → IsReply (head_text status fields ++ rest) (head_text status fields) (tree_of status fields)
is_reply status fields rest good few fits = record {
  count = length fields;
  begins = record { text_is = is_head_text status fields good; rest = rest; whole = refl; fits = fits };
  few = few;
  reads = (is_grammatical status fields good, is_printed status fields ∙ sym (append-nil (print_response (tree_of status fields))));
}
