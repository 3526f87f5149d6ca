-- What is heard of the replies with the CAR of the empty directory.
use Rattle.std.proofs.Common.{◌≡◌, ◌<◌, ◌≤◌, ℕ, Bool, true, false, All, List, [], ◌∷◌, ◌++◌, Some, codes, inr, length, refl, sym, subst, ◌∙◌, arith, append_assoc, nat_lt}
use Rattle.httparse.specs.Grammar.{IsField, IsResponseHead, ResponseHead as ReplyTree, crlf, is_value_byte, print_response}
use Rattle.std.specs.Char.{is_ascii_digit}
use Rattle.std.specs.Prelude.{IsTrue}
use Rattle.std.proofs.lemmas.List.Elements.{All-cons, All-nil, All-weaker}
use Rattle.std.proofs.lemmas.List.Sums.{AllPass-from_list_all}
use Rattle.tg_base32.specs.Base32.{bits}
use Rattle.tg_base32.specs.Computed.{base32}
use Rattle.tg_body.specs.Bodies.{BodyText}
use Rattle.tg_bytes.specs.Lists.{joined}
use Rattle.tg_cid.specs.Computed.{cid_text, v1_bytes}
use Rattle.tg_cid.specs.Spelling.{CidBytes}
use Rattle.tg_http.specs.GrammarLines.{reply_text}
use Rattle.tg_http.specs.HeadText.{HeadText}
use Rattle.tg_http.specs.declared.framing.Framing.{Framing}
use Rattle.tg_http.specs.declared.framing.Framing.TheVariants as framings
use Rattle.tg_http.specs.declared.reply.ReplyHead.{ReplyHead}
use Rattle.tg_model.specs.Dag.{Section}
use Rattle.tg_model.specs.Queries.{QueryParts}
use Rattle.tg_model.specs.declared.queries.Form.{Form}
use Rattle.tg_model.specs.declared.queries.Form.TheVariants as forms
use Rattle.tg_query.specs.Requests.{car_with_dups}
use Rattle.tg_reply.specs.Bodies.{IsCar, IsSpelled}
use Rattle.tg_reply.specs.CarBytes.{car_parts}
use Rattle.tg_reply.specs.Examples.{absence_head, empty_block, empty_chunks, empty_digest, empty_head, first_bytes, first_target, get, open_reply, second_bytes, second_target}
use Rattle.tg_reply.specs.Laws.{Tells, number_of}
use Rattle.tg_reply.specs.Readings.{CarReads, IsGet, Reads}
use Rattle.tg_reply.specs.Replies.{Reply, car_reply, reply_bytes}
use Rattle.tg_reply.specs.declared.status.Status.TheVariants as statuses
use Rattle.tg_varint.specs.GroupLaws.{one_byte}
use Rattle.tg_heard.specs.Carried.{BodyCarries, Carries, CarriesAbsence}
use Rattle.tg_heard.specs.Examples.{early_hints, empty_cid, empty_section, query_of}
use Rattle.tg_heard.specs.FinalHeads.{BeginsReply, IsInterim, more, none}
use Rattle.tg_heard.specs.Laws.{CarsCarry}
use Rattle.tg_heard.proofs.Carrying.{answer_head, chunked_open}
use Rattle.tg_heard.proofs.Framings.{told_of}

-- ---- the interim head

abbrev hints_tree : ReplyTree
hints_tree = record {
  blank = [];
  minor = 1;
  digits = codes "103";
  reason = Some (codes "Early Hints");
  line_end = crlf;
  fields = [];
  last = crlf;
}

-- it is a head of the grammar
hints_grammatical : IsResponseHead hints_tree
hints_grammatical = record {
  minor = omega arith;
  digits = (refl, AllPass-from_list_all is_ascii_digit (codes "103") refl);
  reason = AllPass-from_list_all is_value_byte (codes "Early Hints") refl;
  fields = All-nil IsField;
}

-- and these are its bytes
hints_printed : print_response hints_tree ≡ early_hints
unfolding print_response
hints_printed = refl

-- also with nothing behind them
hints_whole : early_hints ≡ print_response hints_tree ++ []
unfolding print_response
hints_whole = refl

-- bytes begin with it, whatever follows
hints_begin : (rest : List ℕ) → (hint : ReplyHead) × BeginsReply (early_hints ++ rest) hint rest × IsInterim hint
hints_begin rest =
    let told = told_of (length early_hints) hints_tree in (
      told.0,
      record {
        text = early_hints;
        tree = hints_tree;
        is_reply = record {
          count = 0;
          begins = record { text_is = subst (λ (l : List ℕ). HeadText l 0) hints_printed (reply_text hints_tree hints_grammatical); rest = rest; whole = refl; fits = omega arith };
          few = omega arith;
          reads = (hints_grammatical, hints_whole);
        };
        told = told.1;
        whole = refl;
      },
      (omega (arith, told.1.status_is), omega (arith, told.1.status_is)),
    )

-- ---- an answer behind it

-- a reply that is read as a CAR in chunks carries its sections also behind the interim head
behind_hints : (reply : Reply) (q : QueryParts) (sections : List Section) → q.form ≡ forms.Car → number_of reply.status ≡ 200
    → Reads reply (car_with_dups q.dups) framings.Chunked (joined (car_parts q.root sections)) → IsCar q.root sections
    → (tail : List ℕ) (ended : Bool) → Carries (early_hints ++ (reply_bytes reply ++ tail)) ended q sections
behind_hints reply q sections form ok reads car tail ended =
    let hints = hints_begin (reply_bytes reply) in
    let told = told_of (length reply.head) reads.head.tree in
    let says = subst (λ (n : ℕ). Tells (length reply.head) n (car_with_dups q.dups) framings.Chunked told.0) ok (reads.head.told told.0 told.1) in
    record {
      front = early_hints ++ reply_bytes reply;
      more = tail;
      heard_is = sym (append_assoc early_hints (reply_bytes reply) tail);
      head = told.0;
      rest = reply.body;
      final = record {
        count = 1;
        behind = reply_bytes reply;
        interims = more 0 (early_hints ++ reply_bytes reply) (reply_bytes reply) (reply_bytes reply) hints.0 hints.1 hints.2 (none (reply_bytes reply));
        few = omega arith;
        begins = record { text = reply.head; tree = reads.head.tree; is_reply = reads.head.is_reply reply.body; told = told.1; whole = refl };
        final = λ i. omega (arith, i.1, says.status_is);
      };
      is_head = answer_head q (length reply.head) form framings.Chunked told.0 says;
      body = joined (car_parts q.root sections);
      body_is = subst (λ (f : Framing). BodyText f (joined (car_parts q.root sections)) reply.body) (sym says.framing_is) reads.body;
      closed = λ e. absurd (chunked_open (sym says.framing_is ∙ e));
      carries = subst (λ (f : Form). BodyCarries f q (joined (car_parts q.root sections)) sections) (sym form) ((0 ∷ v1_bytes q.root) ∷ [], car.text);
    }

-- ---- the CAR of the empty directory

-- the digest of its CID and the block are bytes
below : (b : ℕ) → IsTrue (nat_lt b 256) → b < 256
below b t = grind (arith, t)

digest_bytes : All (λ (b : ℕ). b < 256) empty_digest
digest_bytes =
    All-weaker (λ (b : ℕ). IsTrue (nat_lt b 256)) (λ (b : ℕ). b < 256) below empty_digest
    (AllPass-from_list_all (λ (b : ℕ). nat_lt b 256) empty_digest refl)

block_bytes : All (λ (b : ℕ). b < 256) empty_block
block_bytes =
    All-weaker (λ (b : ℕ). IsTrue (nat_lt b 256)) (λ (b : ℕ). b < 256) below empty_block
    (AllPass-from_list_all (λ (b : ℕ). nat_lt b 256) empty_block refl)

-- the numbers before the digest
abbrev numbers : List ℕ
numbers = 1 ∷ 0x70 ∷ 0x12 ∷ 32 ∷ []

-- with the digest they spell the CID
cid_spelled : CidBytes empty_cid (numbers ++ empty_digest)
cid_spelled = inr (record {
  version = refl;
  size = refl;
  are_bytes = digest_bytes;
  head = numbers;
  numbers = (
    1 ∷ [],
    0x70 ∷ 0x12 ∷ 32 ∷ [],
    refl,
    one_byte 9 1 (omega arith) (omega arith),
    (
      0x70 ∷ [],
      0x12 ∷ 32 ∷ [],
      refl,
      one_byte 9 0x70 (omega arith) (omega arith),
      (0x12 ∷ [], 32 ∷ [], refl, one_byte 9 0x12 (omega arith) (omega arith), (32 ∷ [], [], refl, one_byte 9 32 (omega arith) (omega arith), refl)),
    ),
  );
  whole = refl;
})

-- so the section is spelled
section_spelled : IsSpelled empty_section
section_spelled = record { name = numbers ++ empty_digest; name_is = cid_spelled; are_bytes = block_bytes; small = omega arith }

sections_spelled : All IsSpelled (empty_section ∷ [])
sections_spelled = All-cons IsSpelled empty_section [] section_spelled (All-nil IsSpelled)

-- the directory is asked by GET
gets_empty : IsGet (get first_target) (query_of [])
gets_empty = record { method = refl; name = numbers ++ empty_digest; root = cid_spelled; names = All-nil (λ (name : List ℕ). All (λ (b : ℕ). b < 256) name) }

-- and so is an entry of it
gets_entry : IsGet (get second_target) (query_of (codes "x" ∷ []))
gets_entry = record {
  method = refl;
  name = numbers ++ empty_digest;
  root = cid_spelled;
  names = All-cons (λ (name : List ℕ). All (λ (b : ℕ). b < 256) name) (codes "x") []
      (All-cons (λ (b : ℕ). b < 256) 120 [] (omega arith) (All-nil (λ (b : ℕ). b < 256)))
      (All-nil (λ (name : List ℕ). All (λ (b : ℕ). b < 256) name));
}

-- the replies
abbrev answer_reply : Reply
answer_reply = car_reply (get first_target) true (query_of []) (empty_section ∷ []) false

abbrev absence_reply : Reply
absence_reply = car_reply (get second_target) false (query_of (codes "x" ∷ [])) (empty_section ∷ []) false

answer_is : answer_reply ≡ open_reply statuses.Ok empty_head empty_chunks
unfolding bits base32 cid_text
answer_is = refl

absence_is : absence_reply ≡ open_reply statuses.NotFound absence_head empty_chunks
unfolding bits base32 cid_text
absence_is = refl

-- their heads fit a head
answer_fits : length answer_reply.head ≤ 16384
answer_fits = subst (λ (r : Reply). length r.head ≤ 16384) (sym answer_is) (omega arith)

absence_fits : length absence_reply.head ≤ 16384
absence_fits = subst (λ (r : Reply). length r.head ≤ 16384) (sym absence_is) (omega arith)

-- ---- what is heard

-- the answer, behind the interim head
pub heard_answer : CarReads → (ended : Bool) → Carries (early_hints ++ (first_bytes ++ second_bytes)) ended (query_of []) (empty_section ∷ [])
heard_answer cars ended =
    let read = (cars (get first_target) true (query_of []) (empty_section ∷ []) gets_empty sections_spelled answer_fits).0 refl in
    subst (λ (r : Reply). Carries (early_hints ++ (reply_bytes r ++ second_bytes)) ended (query_of []) (empty_section ∷ [])) answer_is
    (behind_hints answer_reply (query_of []) (empty_section ∷ []) refl refl read.reads read.car second_bytes ended)

-- and the absence
pub heard_absence : CarsCarry → (tail : List ℕ) (ended : Bool) → CarriesAbsence (second_bytes ++ tail) ended (query_of (codes "x" ∷ [])) (empty_section ∷ [])
heard_absence cars tail ended =
    subst (λ (r : Reply). CarriesAbsence (reply_bytes r ++ tail) ended (query_of (codes "x" ∷ [])) (empty_section ∷ [])) absence_is
    ((cars (get second_target) false (query_of (codes "x" ∷ [])) (empty_section ∷ []) gets_entry refl sections_spelled absence_fits).0 refl tail ended)
