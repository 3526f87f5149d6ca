-- The two orders of a node's fields: all links before the data, and the data before all links.
use Rattle.std.proofs.Common.{◌≡◌, ◌≢◌, ℕ, zero, suc, ◌+◌, ◌-◌, ◌<◌, ◌≤◌, ◌⊎◌, Bool, cond, List, [], ◌∷◌, ◌++◌, length, replicate, get_or, refl, sym, ap, ap₂, ◌∙◌, subst, inl, inr, arith}
use Rattle.std.specs.Prelude.{All, ◌==◌}
use Rattle.std.proofs.lemmas.Bool.{cases_lt, eq-eqb}
use Rattle.std.proofs.lemmas.List.{append-nil, map-append, length-append, length-replicate, get_or_append_left, get_or-append_right, get_or-replicate}
use Rattle.std.proofs.lemmas.List.Elements.{All-nil, All-cons, All-head, All-tail}
use Rattle.std.proofs.lemmas.List.Sums.{sum_by-cons}
use Rattle.tg_pbtable.specs.declared.table.Field.{Field}
use Rattle.tg_pbtable.specs.declared.table.Wire.TheVariants.{Bytes}
use Rattle.tg_pbtable.specs.declared.table.Order.TheVariants.{Runs}
use Rattle.tg_pbtable.specs.declared.table.Rule.{Rule}
use Rattle.tg_pbtable.specs.Message.{HasRule, IsRuledField, AreRuled, StandTogether, count_of, numbers_of}
use Rattle.tg_pbtable.specs.Values.{bytes_at}
use Rattle.tg_pbtable.specs.Laws.{TableLaws}
use Rattle.tg_pbtable.specs.TableRules.{rule_at}
use Rattle.tg_bytes.specs.Lists.{All-split}
use Rattle.tg_dagpb.specs.declared.TheConstants.{NODE}
use Rattle.tg_dagpb.specs.declared.Node.{Node}
use Rattle.tg_dagpb.specs.Node.{HasLinksFirst, HasDataFirst, NodeText, CanonicalText, DataFirstText}
use Rattle.tg_dagpb.proofs.Parts.{node_table}
use Rattle.tg_dagpb.proofs.Same.{texts_alike}

-- the fields of one number before those of another
pub record Halves (m n : ℕ) (fields : List Field) : Type 0 where
  pub front : List Field
  pub rest : List Field
  pub whole : fields ≡ front ++ rest
  pub are_first : All (λ (field : Field). field.number ≡ m) front
  pub are_last : All (λ (field : Field). field.number ≡ n) rest

-- ---- fields that stand together are in one of the two orders

tail_together : (n : ℕ) (ns : List ℕ) → StandTogether (n ∷ ns) → StandTogether ns
tail_together n ns h = λ i j k ij jk kl e. h (suc i) (suc j) (suc k) (omega arith) (omega arith) (omega arith) e

numbers_append : (xs ys : List Field) → numbers_of (xs ++ ys) ≡ numbers_of xs ++ numbers_of ys
numbers_append xs ys = map-append (λ (f : Field). f.number) xs ys

-- a number on both sides of others
apart : (m n : ℕ) (f a b : Field) (xs ys : List Field) → m ≢ n → f.number ≡ m → a.number ≡ n → b.number ≡ m → StandTogether (numbers_of (f ∷ (a ∷ xs) ++ (b ∷ ys))) → ⊥
apart m n f a b xs ys ne fm an bm h =
    let ns = numbers_of (f ∷ (a ∷ xs)) in
    let all : numbers_of (f ∷ (a ∷ xs) ++ (b ∷ ys)) ≡ ns ++ numbers_of (b ∷ ys) = numbers_append (f ∷ (a ∷ xs)) (b ∷ ys) in
    let k = length ns in
    let none : k - k ≡ 0 = omega arith in
    let last : get_or (ns ++ numbers_of (b ∷ ys)) k 0 ≡ b.number = get_or-append_right ns (numbers_of (b ∷ ys)) k k 0 refl (omega arith) ∙ ap (λ (i : ℕ). get_or (numbers_of (b ∷ ys)) i 0) none in
    let t : StandTogether (ns ++ numbers_of (b ∷ ys)) = subst (λ (x : List ℕ). StandTogether x) all h in
    let same : a.number ≡ f.number = t 0 1 k (omega arith) (omega arith) (omega (arith, length-append ns (numbers_of (b ∷ ys)))) (fm ∙ sym bm ∙ sym last) in
    ne (sym fm ∙ sym same ∙ an)

pub longer : (m n : ℕ) (f : Field) (fs : List Field) → f.number ≡ m → Halves m n fs → Halves m n (f ∷ fs)
longer m n f fs e h = record {
  front = f ∷ h.front;
  rest = h.rest;
  whole = ap (λ (t : List Field). f ∷ t) h.whole;
  are_first = All-cons (λ (x : Field). x.number ≡ m) f h.front e h.are_first;
  are_last = h.are_last;
}

turned : (m n : ℕ) (f : Field) (fs front rest : List Field) → m ≢ n → f.number ≡ m → StandTogether (numbers_of (f ∷ fs)) → fs ≡ front ++ rest
    → All (λ (x : Field). x.number ≡ n) front → All (λ (x : Field). x.number ≡ m) rest → Halves m n (f ∷ fs)
turned m n f fs [] rest ne e t w a b = record {
  front = f ∷ rest;
  rest = [];
  whole = ap (λ (x : List Field). f ∷ x) (w ∙ sym (append-nil rest));
  are_first = All-cons (λ (x : Field). x.number ≡ m) f rest e b;
  are_last = All-nil (λ (x : Field). x.number ≡ n);
}
turned m n f fs (g ∷ front) [] ne e t w a b = record {
  front = f ∷ [];
  rest = g ∷ front;
  whole = ap (λ (x : List Field). f ∷ x) (w ∙ append-nil (g ∷ front));
  are_first = All-cons (λ (x : Field). x.number ≡ m) f [] e (All-nil (λ (x : Field). x.number ≡ m));
  are_last = a;
}
turned m n f fs (g ∷ front) (h ∷ rest) ne e t w a b = absurd (
    apart m n f g h front rest ne e (All-head (λ (x : Field). x.number ≡ n) g front a) (All-head (λ (x : Field). x.number ≡ m) h rest b)
    (subst (λ (x : List Field). StandTogether (numbers_of (f ∷ x))) w t))

two_orders : (m n : ℕ) (fs : List Field) → m ≢ n → All (λ (f : Field). (f.number ≡ m) ⊎ (f.number ≡ n)) fs → StandTogether (numbers_of fs) → Halves m n fs ⊎ Halves n m fs
two_orders m n [] ne h t = inl (record { front = []; rest = []; whole = refl; are_first = All-nil (λ (f : Field). f.number ≡ m); are_last = All-nil (λ (f : Field). f.number ≡ n) })
two_orders m n (f ∷ fs) ne h t =
    let P = λ (x : Field). (x.number ≡ m) ⊎ (x.number ≡ n) in
    let rest = two_orders m n fs ne (All-tail P f fs h) (tail_together f.number (numbers_of fs) t) in
    elim (All-head P f fs h) [
      | inl e ↦ inl (elim rest [ inl r ↦ longer m n f fs e r | inr r ↦ turned m n f fs r.front r.rest ne e t r.whole r.are_first r.are_last ])
      | inr e ↦ inr (elim rest [ inl r ↦ turned n m f fs r.front r.rest (λ x. ne (sym x)) e t r.whole r.are_first r.are_last | inr r ↦ longer n m f fs e r ])
    ]

-- ---- and the other way round

replicate_index : (a b m n i : ℕ) → i < a + b → ((i < a) × (get_or (replicate a m ++ replicate b n) i 0 ≡ m)) ⊎ ((a ≤ i) × (get_or (replicate a m ++ replicate b n) i 0 ≡ n))
replicate_index a b m n i l = elim (cases_lt i a) [
  | inl h ↦
      let here : i < length (replicate a m) = omega (arith, length-replicate a m) in
      inl (h, get_or_append_left (replicate a m) (replicate b n) 0 i here ∙ get_or-replicate a i m 0 h)
  | inr h ↦
      let there : i - a < b = omega arith in
      inr (h, get_or-append_right (replicate a m) (replicate b n) a i 0 (length-replicate a m) h ∙ get_or-replicate b (i - a) n 0 there)
]

together_two : (a b m n : ℕ) → m ≢ n → StandTogether (replicate a m ++ replicate b n)
together_two a b m n ne = λ i j k ij jk kl e.
    let size : length (replicate a m ++ replicate b n) ≡ a + b = length-append (replicate a m) (replicate b n) ∙ ap₂ (λ (x y : ℕ). x + y) (length-replicate a m) (length-replicate b n) in
    elim (replicate_index a b m n i (omega arith)) [
      | inl p ↦ elim (replicate_index a b m n k (omega arith)) [
        | inl r ↦ elim (replicate_index a b m n j (omega arith)) [ inl q ↦ q.1 ∙ sym p.1 | inr q ↦ absurd (omega (arith, r.0, q.0)) ]
        | inr r ↦ absurd (ne (sym p.1 ∙ e ∙ r.1))
      ]
      | inr p ↦ elim (replicate_index a b m n j (omega arith)) [ inl q ↦ absurd (omega (arith, p.0, q.0)) | inr q ↦ q.1 ∙ sym p.1 ]
    ]

all_numbers : (n : ℕ) (fs : List Field) → All (λ (f : Field). f.number ≡ n) fs → numbers_of fs ≡ replicate (length fs) n
all_numbers n [] h = refl
all_numbers n (f ∷ fs) h = ap₂ (λ (x : ℕ) (xs : List ℕ). x ∷ xs) (All-head (λ (x : Field). x.number ≡ n) f fs h) (all_numbers n fs (All-tail (λ (x : Field). x.number ≡ n) f fs h))

pub halves_numbers : (m n : ℕ) (fs : List Field) (h : Halves m n fs) → numbers_of fs ≡ replicate (length h.front) m ++ replicate (length h.rest) n
halves_numbers m n fs h = ap numbers_of h.whole ∙ numbers_append h.front h.rest ∙ ap₂ (λ (x y : List ℕ). x ++ y) (all_numbers m h.front h.are_first) (all_numbers n h.rest h.are_last)

pub halves_together : (m n : ℕ) (fs : List Field) → m ≢ n → Halves m n fs → StandTogether (numbers_of fs)
halves_together m n fs ne h = subst (λ (x : List ℕ). StandTogether x) (sym (halves_numbers m n fs h)) (together_two (length h.front) (length h.rest) m n ne)

-- ---- how many there are, told by the values

all_counted : (n : ℕ) (fs : List Field) → All (λ (f : Field). f.number ≡ n) fs → count_of fs n ≡ length fs
all_counted n [] h = refl
all_counted n (f ∷ fs) h =
    let P = λ (x : Field). x.number ≡ n in
    let rest : count_of fs n ≡ length fs = all_counted n fs (All-tail P f fs h) in
    sum_by-cons (λ (x : Field). cond (x.number == n) 1 0) f fs ∙ ap (λ (b : Bool). cond b 1 0 + count_of fs n) (eq-eqb f.number n (All-head P f fs h)) ∙ omega arith

none_of : (laws : TableLaws) → (text : List ℕ) (m n : ℕ) (fs : List Field) → m ≢ n → All (λ (f : Field). f.number ≡ n) fs → bytes_at text m fs ≡ []
none_of laws text m n fs ne h = laws.values.no_bytes text m fs (λ k d l e. absurd (ne (sym e ∙ h k d l)))

pub halves_bytes : (laws : TableLaws) → (text : List ℕ) (m n : ℕ) (fs : List Field) (h : Halves m n fs) → m ≢ n → (bytes_at text m fs ≡ bytes_at text m h.front) × (bytes_at text n fs ≡ bytes_at text n h.rest)
halves_bytes laws text m n fs h ne = (
  ap (bytes_at text m) h.whole ∙ laws.values.bytes_append text m h.front h.rest ∙ ap (λ (t : List (List ℕ)). bytes_at text m h.front ++ t) (none_of laws text m n h.rest ne h.are_last) ∙ append-nil (bytes_at text m h.front),
  ap (bytes_at text n) h.whole ∙ laws.values.bytes_append text n h.front h.rest ∙ ap (λ (t : List (List ℕ)). t ++ bytes_at text n h.rest) (none_of laws text n m h.front (λ e. ne (sym e)) h.are_first),
)

-- the numbers of a node's fields in one of the orders
pub halves_values : (laws : TableLaws) → (text : List ℕ) (m n : ℕ) (fs : List Field) (h : Halves m n fs) → m ≢ n → HasRule NODE.now m Bytes → HasRule NODE.now n Bytes → AreRuled NODE.now fs
    → numbers_of fs ≡ replicate (length (bytes_at text m fs)) m ++ replicate (length (bytes_at text n fs)) n
halves_values laws text m n fs h ne rm rn ruled =
    let P = IsRuledField NODE.now in
    let both = All-split P h.front h.rest (subst (λ (x : List Field). All P x) h.whole ruled) in
    let bytes = halves_bytes laws text m n fs h ne in
    let first : length (bytes_at text m fs) ≡ length h.front = ap length bytes.0 ∙ laws.values.all_bytes NODE.now text m h.front (node_table laws) rm both.0 ∙ all_counted m h.front h.are_first in
    let last : length (bytes_at text n fs) ≡ length h.rest = ap length bytes.1 ∙ laws.values.all_bytes NODE.now text n h.rest (node_table laws) rn both.1 ∙ all_counted n h.rest h.are_last in
    halves_numbers m n fs h ∙ ap₂ (λ (a b : ℕ). replicate a m ++ replicate b n) (sym first) (sym last)

-- ---- a node's fields

known_number : (k : ℕ) (rule : Rule) → k < 2 → get_or NODE.now k rule ≡ rule → (rule.number ≡ 2) ⊎ (rule.number ≡ 1)
known_number zero rule l e = inr (sym (ap (λ (r : Rule). r.number) e))
known_number (suc zero) rule l e = inl (sym (ap (λ (r : Rule). r.number) e))
known_number (suc (suc k)) rule l e = absurd (omega arith)

known : (f : Field) → HasRule NODE.now f.number f.wire → (f.number ≡ 2) ⊎ (f.number ≡ 1)
known f h = elim (known_number h.among.0 h.rule h.among.1 h.among.2) [ inl e ↦ inl (sym h.number_is ∙ e) | inr e ↦ inr (sym h.number_is ∙ e) ]

pub links_first : (fs : List Field) → HasLinksFirst fs → Halves 2 1 fs
links_first fs h = record { front = h.links; rest = h.rest; whole = h.whole; are_first = h.are_links; are_last = h.are_data }

pub data_first : (fs : List Field) → HasDataFirst fs → Halves 1 2 fs
data_first fs h = record { front = h.first; rest = h.links; whole = h.whole; are_first = h.are_data; are_last = h.are_links }

pub first_links : (fs : List Field) → Halves 2 1 fs → HasLinksFirst fs
first_links fs h = record { links = h.front; rest = h.rest; whole = h.whole; are_links = h.are_first; are_data = h.are_last }

pub first_data : (fs : List Field) → Halves 1 2 fs → HasDataFirst fs
first_data fs h = record { first = h.front; links = h.rest; whole = h.whole; are_data = h.are_first; are_links = h.are_last }

pub node_orders : (node : Node) (text : List ℕ) → NodeText node text → CanonicalText node text ⊎ DataFirstText node text
node_orders node text p =
    let h = two_orders 2 1 p.fields (omega arith) (λ k d l. known (get_or p.fields k d) (p.message.ruled k d l).has_rule) p.message.ordered in
    elim h [ inl a ↦ inl (record { is_text = p; order = first_links p.fields a }) | inr b ↦ inr (record { is_text = p; order = first_data p.fields b }) ]

-- ---- a node has one text in each order

ruled_one : HasRule NODE.now 1 Bytes
ruled_one = rule_at NODE.now 0 (omega arith)

ruled_two : HasRule NODE.now 2 Bytes
ruled_two = rule_at NODE.now 1 (omega arith)

-- texts of a node whose fields stand in one order are one
one_ordered : (laws : TableLaws) → (node : Node) (m n : ℕ) (s t : List ℕ) (a : NodeText node s) (b : NodeText node t) → m ≢ n
    → HasRule NODE.now m Bytes → HasRule NODE.now n Bytes → Halves m n a.fields → Halves m n b.fields → s ≡ t
one_ordered laws node m n s t a b ne rm rn h k =
    let values = texts_alike laws node s t a b in
    let numbers : numbers_of a.fields ≡ numbers_of b.fields =
    halves_values laws s m n a.fields h ne rm rn a.message.ruled
    ∙ ap₂ (λ (x y : List (List ℕ)). replicate (length x) m ++ replicate (length y) n) (values.bytes m) (values.bytes n)
    ∙ sym (halves_values laws t m n b.fields k ne rm rn b.message.ruled) in
    laws.messages.any_order NODE.now Runs s t a.fields b.fields (node_table laws) a.message b.message numbers values

pub one_canonical : (laws : TableLaws) → (node : Node) (s t : List ℕ) → CanonicalText node s → CanonicalText node t → s ≡ t
one_canonical laws node s t p q =
    one_ordered laws node 2 1 s t p.is_text q.is_text (omega arith) ruled_two ruled_one (links_first p.is_text.fields p.order) (links_first q.is_text.fields q.order)

pub one_data_first : (laws : TableLaws) → (node : Node) (s t : List ℕ) → DataFirstText node s → DataFirstText node t → s ≡ t
one_data_first laws node s t p q =
    one_ordered laws node 1 2 s t p.is_text q.is_text (omega arith) ruled_one ruled_two (data_first p.is_text.fields p.order) (data_first q.is_text.fields q.order)
