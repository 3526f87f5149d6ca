-- The text that is written for a link and for a node is theirs.
use Rattle.std.proofs.Common.{◌≡◌, ◌≢◌, ℕ, zero, suc, ◌+◌, ◌-◌, ◌^◌, ◌<◌, ◌≤◌, Option, Some, None, List, [], ◌∷◌, ◌++◌, length, get_or, refl, sym, ap, ap₂, ◌∙◌, append_assoc, subst, arith, length-append}
use Rattle.std.specs.Prelude.{All, slice_range, min}
use Rattle.std.specs.List.Sorted.{IsNonDecreasing}
use Rattle.std.proofs.lemmas.List.{append-nil}
use Rattle.std.proofs.lemmas.List.Elements.{All-nil, All-cons, All-head, All-tail, All-append}
use Rattle.tg_bytes.specs.Lists.{between, joined, rises}
use Rattle.tg_pbtable.specs.declared.table.Rule.{Rule}
use Rattle.tg_pbtable.specs.declared.table.Wire.TheVariants.{Varint, Bytes}
use Rattle.tg_pbtable.specs.declared.table.Field.{Field}
use Rattle.tg_pbtable.specs.declared.table.Value.TheVariants.{Number, Place}
use Rattle.tg_pbtable.specs.declared.table.Order.TheVariants.{Ascending, Runs}
use Rattle.tg_pbtable.specs.Message.{HasRule, IsRuledField, AreRuled, IsCount, count_of, numbers_of}
use Rattle.tg_pbtable.specs.Emitted.{AreSameFields, HeadSpelling, BytesSpelling, FieldTexts, Puts, IsSizeOf}
use Rattle.tg_pbtable.specs.Values.{number_in, bytes_in, numbers_at, bytes_at, listed}
use Rattle.tg_pbtable.specs.Laws.{TableLaws}
use Rattle.tg_pbtable.specs.TableRules.{rule_at}
use Rattle.tg_dagpb.specs.declared.TheConstants.{NODE, LINK}
use Rattle.tg_dagpb.specs.declared.Link.{Link}
use Rattle.tg_dagpb.specs.declared.Node.{Node}
use Rattle.tg_dagpb.specs.Node.{LinkText, LinkTexts, HasLinkParts, HasNodeParts, CanonicalText}
use Rattle.tg_dagpb.specs.Writing.{BytesTexts, NumberTexts, LinkContent, LinkField}
use Rattle.tg_dagpb.proofs.Parts.{node_table, link_table}
use Rattle.tg_dagpb.proofs.Same.{link_again, node_again}
use Rattle.tg_dagpb.proofs.Orders.{Halves, longer, halves_together, first_links}
use Rattle.tg_dagpb.proofs.Gathering.{texts_append}

-- ---- fields of bytes one behind another

-- the fields of one number whose bytes lie one behind another from `at` on
abbrev spans : ℕ → ℕ → List (List ℕ) → List Field
spans number at [] = []
spans number at (text ∷ texts) = record { number = number; wire = Bytes; value = Place at (at + length text) } ∷ spans number (at + length text) texts

spans_number : (n at : ℕ) (texts : List (List ℕ)) → All (λ (f : Field). f.number ≡ n) (spans n at texts)
spans_number n at [] = All-nil (λ (f : Field). f.number ≡ n)
spans_number n at (t ∷ ts) = All-cons (λ (f : Field). f.number ≡ n) (record { number = n; wire = Bytes; value = Place at (at + length t) }) (spans n (at + length t) ts) refl (spans_number n (at + length t) ts)

spans_places : (n at : ℕ) (texts : List (List ℕ)) → All (λ (f : Field). number_in f.value ≡ []) (spans n at texts)
spans_places n at [] = All-nil (λ (f : Field). number_in f.value ≡ [])
spans_places n at (t ∷ ts) = All-cons (λ (f : Field). number_in f.value ≡ []) (record { number = n; wire = Bytes; value = Place at (at + length t) }) (spans n (at + length t) ts) refl (spans_places n (at + length t) ts)

spans_ruled : (rules : List Rule) (n at : ℕ) (texts : List (List ℕ)) → HasRule rules n Bytes → AreRuled rules (spans n at texts)
spans_ruled rules n at [] h = All-nil (IsRuledField rules)
spans_ruled rules n at (t ∷ ts) h = All-cons (IsRuledField rules) (record { number = n; wire = Bytes; value = Place at (at + length t) }) (spans n (at + length t) ts) (record { has_rule = h; of_wire = tt }) (spans_ruled rules n (at + length t) ts h)

spans_none : (laws : TableLaws) → (k n at : ℕ) (texts : List (List ℕ)) → numbers_at k (spans n at texts) ≡ []
spans_none laws k n at texts = laws.values.no_numbers k (spans n at texts) (λ i d l e. spans_places n at texts i d l)

spans_other : (laws : TableLaws) → (source : List ℕ) (m n at : ℕ) (texts : List (List ℕ)) → m ≢ n → bytes_at source m (spans n at texts) ≡ []
spans_other laws source m n at texts ne = laws.values.no_bytes source m (spans n at texts) (λ i d l e. absurd (ne (sym e ∙ spans_number n at texts i d l)))

spans_bytes : (laws : TableLaws) → (source front : List ℕ) (n at : ℕ) (texts : List (List ℕ)) (back : List ℕ) → source ≡ front ++ (joined texts ++ back) → at ≡ length front → bytes_at source n (spans n at texts) ≡ texts
spans_bytes laws source front n at [] back w e = refl
spans_bytes laws source front n at (t ∷ ts) back w e =
    let whole : source ≡ front ++ (t ++ (joined ts ++ back)) = w ∙ ap (λ (x : List ℕ). front ++ x) (append_assoc t (joined ts) back) in
    let here : slice_range source at (at + length t) ≡ t = ap (λ (x : List ℕ). slice_range x at (at + length t)) whole ∙ between front t (joined ts ++ back) at (at + length t) e refl in
    let rest = spans_bytes laws source (front ++ t) n (at + length t) ts back (whole ∙ sym (append_assoc front t (joined ts ++ back))) (omega (arith, length-append front t)) in
    laws.values.bytes_here source n (record { number = n; wire = Bytes; value = Place at (at + length t) }) (spans n (at + length t) ts) refl
    ∙ ap₂ (λ (x : List ℕ) (xs : List (List ℕ)). x ∷ xs) here rest

spans_texts : (source front : List ℕ) (n at : ℕ) (texts : List (List ℕ)) (back bytes : List ℕ) → source ≡ front ++ (joined texts ++ back) → at ≡ length front → BytesTexts n texts bytes → FieldTexts source (spans n at texts) bytes
spans_texts source front n at [] back bytes w e h = h
spans_texts source front n at (t ∷ ts) back bytes w e h =
    let whole : source ≡ front ++ (t ++ (joined ts ++ back)) = w ∙ ap (λ (x : List ℕ). front ++ x) (append_assoc t (joined ts) back) in
    let here : slice_range source at (at + length t) ≡ t = ap (λ (x : List ℕ). slice_range x at (at + length t)) whole ∙ between front t (joined ts ++ back) at (at + length t) e refl in
    let rest = spans_texts source (front ++ t) n (at + length t) ts back h.1 (whole ∙ sym (append_assoc front t (joined ts ++ back))) (omega (arith, length-append front t)) h.4 in
    (h.0, h.1, h.2, subst (λ (x : List ℕ). BytesSpelling n x h.0) (sym here) h.3, rest)

-- ---- fields of numbers

-- the fields of one number with these numbers
abbrev sizes : ℕ → List ℕ → List Field
sizes number [] = []
sizes number (value ∷ values) = record { number = number; wire = Varint; value = Number value } ∷ sizes number values

sizes_texts : (source : List ℕ) (n : ℕ) (values bytes : List ℕ) → NumberTexts n values bytes → FieldTexts source (sizes n values) bytes
sizes_texts source n [] bytes h = h
sizes_texts source n (v ∷ vs) bytes h = (h.0, h.1, h.2, h.3, sizes_texts source n vs h.1 h.4)

sizes_ruled : (rules : List Rule) (n : ℕ) (values : List ℕ) → HasRule rules n Varint → AreRuled rules (sizes n values)
sizes_ruled rules n [] h = All-nil (IsRuledField rules)
sizes_ruled rules n (v ∷ vs) h = All-cons (IsRuledField rules) (record { number = n; wire = Varint; value = Number v }) (sizes n vs) (record { has_rule = h; of_wire = tt }) (sizes_ruled rules n vs h)

sizes_empty : (source : List ℕ) (n : ℕ) (values : List ℕ) → All (λ (f : Field). bytes_in source f.value ≡ []) (sizes n values)
sizes_empty source n [] = All-nil (λ (f : Field). bytes_in source f.value ≡ [])
sizes_empty source n (v ∷ vs) = All-cons (λ (f : Field). bytes_in source f.value ≡ []) (record { number = n; wire = Varint; value = Number v }) (sizes n vs) refl (sizes_empty source n vs)

sizes_none : (laws : TableLaws) → (source : List ℕ) (k n : ℕ) (values : List ℕ) → bytes_at source k (sizes n values) ≡ []
sizes_none laws source k n values = laws.values.no_bytes source k (sizes n values) (λ i d l e. sizes_empty source n values i d l)

sizes_values : (laws : TableLaws) → (n : ℕ) (values : List ℕ) → numbers_at n (sizes n values) ≡ values
sizes_values laws n [] = refl
sizes_values laws n (v ∷ vs) = laws.values.numbers_here n (record { number = n; wire = Varint; value = Number v }) (sizes n vs) refl ∙ ap (λ (xs : List ℕ). v ∷ xs) (sizes_values laws n vs)

-- ---- the fields of a link

abbrev link_source : Link → List ℕ
link_source link = joined (link.hash ∷ []) ++ joined (listed link.name)

abbrev link_fields : Link → List Field
link_fields link = (spans 1 0 (link.hash ∷ []) ++ spans 2 (length (joined (link.hash ∷ []))) (listed link.name)) ++ sizes 3 (listed link.tsize)

three_bytes : (laws : TableLaws) → (s : List ℕ) (n : ℕ) (xs ys zs : List Field) → bytes_at s n ((xs ++ ys) ++ zs) ≡ (bytes_at s n xs ++ bytes_at s n ys) ++ bytes_at s n zs
three_bytes laws s n xs ys zs = laws.values.bytes_append s n (xs ++ ys) zs ∙ ap (λ (t : List (List ℕ)). t ++ bytes_at s n zs) (laws.values.bytes_append s n xs ys)

three_numbers : (laws : TableLaws) → (n : ℕ) (xs ys zs : List Field) → numbers_at n ((xs ++ ys) ++ zs) ≡ (numbers_at n xs ++ numbers_at n ys) ++ numbers_at n zs
three_numbers laws n xs ys zs = laws.values.numbers_append n (xs ++ ys) zs ∙ ap (λ (t : List ℕ). t ++ numbers_at n zs) (laws.values.numbers_append n xs ys)

joined_three : {A : Type 0} (x y z a b c : List A) → x ≡ a → y ≡ b → z ≡ c → (x ++ y) ++ z ≡ (a ++ b) ++ c
joined_three x y z a b c p q r = rw (p, q, r) refl

link_parts : (laws : TableLaws) → (link : Link) → HasLinkParts (link_source link) (link_fields link) link
link_parts laws link =
    let s = link_source link in
    let hash = joined (link.hash ∷ []) in
    let xs = spans 1 0 (link.hash ∷ []) in
    let ys = spans 2 (length hash) (listed link.name) in
    let zs = sizes 3 (listed link.tsize) in
    record {
      hash = three_bytes laws s 1 xs ys zs
          ∙ joined_three (bytes_at s 1 xs) (bytes_at s 1 ys) (bytes_at s 1 zs) (link.hash ∷ []) [] []
          (spans_bytes laws s [] 1 0 (link.hash ∷ []) (joined (listed link.name)) refl refl) (spans_other laws s 1 2 (length hash) (listed link.name) (omega arith)) (sizes_none laws s 1 3 (listed link.tsize));
      name = three_bytes laws s 2 xs ys zs
          ∙ joined_three (bytes_at s 2 xs) (bytes_at s 2 ys) (bytes_at s 2 zs) [] (listed link.name) []
          (spans_other laws s 2 1 0 (link.hash ∷ []) (omega arith))
          (spans_bytes laws s hash 2 (length hash) (listed link.name) [] (ap (λ (t : List ℕ). hash ++ t) (sym (append-nil (joined (listed link.name))))) refl)
          (sizes_none laws s 2 3 (listed link.tsize))
          ∙ append-nil (listed link.name);
      tsize = three_numbers laws 3 xs ys zs
          ∙ joined_three (numbers_at 3 xs) (numbers_at 3 ys) (numbers_at 3 zs) [] [] (listed link.tsize)
          (spans_none laws 3 1 0 (link.hash ∷ [])) (spans_none laws 3 2 (length hash) (listed link.name)) (sizes_values laws 3 (listed link.tsize));
    }

link_ruled : (link : Link) → AreRuled LINK.now (link_fields link)
link_ruled link =
    let P = IsRuledField LINK.now in
    let hash = joined (link.hash ∷ []) in
    let xs = spans 1 0 (link.hash ∷ []) in
    let ys = spans 2 (length hash) (listed link.name) in
    All-append P (xs ++ ys) (sizes 3 (listed link.tsize))
    (All-append P xs ys (spans_ruled LINK.now 1 0 (link.hash ∷ []) (rule_at LINK.now 0 (omega arith))) (spans_ruled LINK.now 2 (length hash) (listed link.name) (rule_at LINK.now 1 (omega arith))))
    (sizes_ruled LINK.now 3 (listed link.tsize) (rule_at LINK.now 2 (omega arith)))

few : {A : Type 0} (o : Option A) → length (listed o) ≤ 1
few None = omega arith
few (Some x) = omega arith

link_counts : (laws : TableLaws) → (link : Link) (k : ℕ) (d : Rule) → k < 3 → IsCount (get_or LINK.now k d).times (count_of (link_fields link) (get_or LINK.now k d).number)
link_counts laws link zero d l = sym (laws.values.all_bytes LINK.now (link_source link) 1 (link_fields link) (link_table laws) (rule_at LINK.now 0 (omega arith)) (link_ruled link)) ∙ ap length (link_parts laws link).hash
link_counts laws link (suc zero) d l =
    let e : length (listed link.name) ≡ count_of (link_fields link) 2 = sym (ap length (link_parts laws link).name) ∙ laws.values.all_bytes LINK.now (link_source link) 2 (link_fields link) (link_table laws) (rule_at LINK.now 1 (omega arith)) (link_ruled link) in
    omega (arith, few link.name)
link_counts laws link (suc (suc zero)) d l =
    let e : length (listed link.tsize) ≡ count_of (link_fields link) 3 = sym (ap length (link_parts laws link).tsize) ∙ laws.values.all_numbers LINK.now 3 (link_fields link) (link_table laws) (rule_at LINK.now 2 (omega arith)) (link_ruled link) in
    omega (arith, few link.tsize)
link_counts laws link (suc (suc (suc k))) d l = absurd (omega arith)

one_rises : IsNonDecreasing (1 ∷ [])
one_rises = rises [] 1 (λ i j d ij jl. absurd (omega arith)) (λ l. omega arith)

two_rise : (n : ℕ) → 1 ≤ n → IsNonDecreasing (1 ∷ n ∷ [])
two_rise n l = rises (1 ∷ []) n one_rises (λ _. l)

link_rises : (hash : List ℕ) (name : Option (List ℕ)) (tsize : Option ℕ) → IsNonDecreasing (numbers_of (link_fields (record { hash = hash; name = name; tsize = tsize })))
link_rises hash None None = one_rises
link_rises hash (Some name) None = two_rise 2 (omega arith)
link_rises hash None (Some tsize) = two_rise 3 (omega arith)
link_rises hash (Some name) (Some tsize) = rises (1 ∷ 2 ∷ []) 3 (two_rise 2 (omega arith)) (λ _. omega arith)

link_texts : (laws : TableLaws) → (link : Link) (content : List ℕ) → LinkContent link content → FieldTexts (link_source link) (link_fields link) content
link_texts laws link content h =
    let s = link_source link in
    let hash = joined (link.hash ∷ []) in
    let xs = spans 1 0 (link.hash ∷ []) in
    let ys = spans 2 (length hash) (listed link.name) in
    let zs = sizes 3 (listed link.tsize) in
    let first : FieldTexts s xs h.hash = spans_texts s [] 1 0 (link.hash ∷ []) (joined (listed link.name)) h.hash refl refl (h.hash, [], sym (append-nil h.hash), h.hash_is, refl) in
    let second : FieldTexts s ys h.name = spans_texts s hash 2 (length hash) (listed link.name) [] h.name (ap (λ (t : List ℕ). hash ++ t) (sym (append-nil (joined (listed link.name))))) refl h.name_is in
    let third : FieldTexts s zs h.tsize = sizes_texts s 3 (listed link.tsize) h.tsize h.tsize_is in
    subst (λ (t : List ℕ). FieldTexts s (link_fields link) t) (append_assoc h.hash h.name h.tsize ∙ sym h.whole)
    (laws.writing.append s (xs ++ ys) zs (h.hash ++ h.name) h.tsize (laws.writing.append s xs ys h.hash h.name first second) third)

pub link_written : (laws : TableLaws) → (link : Link) (content : List ℕ) → LinkContent link content → LinkText link content
link_written laws link content h =
    let s = link_source link in
    let got = laws.writing.message LINK.now Ascending s (link_fields link) content (link_ruled link) (link_counts laws link) (link_rises link.hash link.name link.tsize) (link_texts laws link content h) in
    record {
      fields = got.0;
      message = got.1;
      parts = link_again laws s content (link_fields link) got.0 link got.2 (link_parts laws link);
    }

-- ---- the fields of a node

abbrev node_source : List (List ℕ) → Option (List ℕ) → List ℕ
node_source texts payload = joined texts ++ joined (listed payload)

abbrev node_fields : List (List ℕ) → Option (List ℕ) → List Field
node_fields texts payload = spans 2 0 texts ++ spans 1 (length (joined texts)) (listed payload)

node_parts : (laws : TableLaws) → (node : Node) (texts : List (List ℕ)) → LinkTexts node.links texts → HasNodeParts (node_source texts node.payload) (node_fields texts node.payload) node
node_parts laws node texts h =
    let s = node_source texts node.payload in
    let front = joined texts in
    let back = joined (listed node.payload) in
    let xs = spans 2 0 texts in
    let ys = spans 1 (length front) (listed node.payload) in
    let links : bytes_at s 2 (xs ++ ys) ≡ texts =
    laws.values.bytes_append s 2 xs ys
    ∙ ap₂ (λ (a b : List (List ℕ)). a ++ b) (spans_bytes laws s [] 2 0 texts back refl refl) (spans_other laws s 2 1 (length front) (listed node.payload) (omega arith))
    ∙ append-nil texts in
    record {
      links = subst (λ (t : List (List ℕ)). LinkTexts node.links t) (sym links) h;
      payload = laws.values.bytes_append s 1 xs ys
          ∙ ap₂ (λ (a b : List (List ℕ)). a ++ b) (spans_other laws s 1 2 0 texts (omega arith))
          (spans_bytes laws s front 1 (length front) (listed node.payload) [] (ap (λ (t : List ℕ). front ++ t) (sym (append-nil back))) refl);
    }

node_ruled : (texts : List (List ℕ)) (payload : Option (List ℕ)) → AreRuled NODE.now (node_fields texts payload)
node_ruled texts payload =
    All-append (IsRuledField NODE.now) (spans 2 0 texts) (spans 1 (length (joined texts)) (listed payload))
    (spans_ruled NODE.now 2 0 texts (rule_at NODE.now 1 (omega arith))) (spans_ruled NODE.now 1 (length (joined texts)) (listed payload) (rule_at NODE.now 0 (omega arith)))

node_counts : (laws : TableLaws) → (node : Node) (texts : List (List ℕ)) → LinkTexts node.links texts → (k : ℕ) (d : Rule) → k < 2 → IsCount (get_or NODE.now k d).times (count_of (node_fields texts node.payload) (get_or NODE.now k d).number)
node_counts laws node texts h zero d l =
    let e : length (listed node.payload) ≡ count_of (node_fields texts node.payload) 1 =
    sym (ap length (node_parts laws node texts h).payload) ∙ laws.values.all_bytes NODE.now (node_source texts node.payload) 1 (node_fields texts node.payload) (node_table laws) (rule_at NODE.now 0 (omega arith)) (node_ruled texts node.payload) in
    omega (arith, few node.payload)
node_counts laws node texts h (suc zero) d l = tt
node_counts laws node texts h (suc (suc k)) d l = absurd (omega arith)

abbrev node_halves : (texts : List (List ℕ)) (payload : Option (List ℕ)) → Halves 2 1 (node_fields texts payload)
node_halves texts payload = record {
  front = spans 2 0 texts;
  rest = spans 1 (length (joined texts)) (listed payload);
  whole = refl;
  are_first = spans_number 2 0 texts;
  are_last = spans_number 1 (length (joined texts)) (listed payload);
}

same_number : (n : ℕ) (s t : List ℕ) (fs gs : List Field) → AreSameFields s fs t gs → All (λ (f : Field). f.number ≡ n) fs → All (λ (f : Field). f.number ≡ n) gs
same_number n s t [] [] same h = h
same_number n s t [] (g ∷ gs) same h = absurd same
same_number n s t (f ∷ fs) [] same h = absurd same
same_number n s t (f ∷ fs) (g ∷ gs) same h =
    let P = λ (x : Field). x.number ≡ n in
    All-cons P g gs (sym same.0 ∙ All-head P f fs h) (same_number n s t fs gs same.3 (All-tail P f fs h))

same_halves : (m n : ℕ) (s t : List ℕ) (front rest gs : List Field) → AreSameFields s (front ++ rest) t gs → All (λ (f : Field). f.number ≡ m) front → All (λ (f : Field). f.number ≡ n) rest → Halves m n gs
same_halves m n s t [] rest gs same a b = record { front = []; rest = gs; whole = refl; are_first = a; are_last = same_number n s t rest gs same b }
same_halves m n s t (f ∷ front) rest [] same a b = absurd same
same_halves m n s t (f ∷ front) rest (g ∷ gs) same a b =
    let P = λ (x : Field). x.number ≡ m in
    longer m n g gs (sym same.0 ∙ All-head P f front a) (same_halves m n s t front rest gs same.3 (All-tail P f front a) b)

-- the text of links is put
pub record HasLinks (links : List Link) (text : List ℕ) : Type 0 where
  pub texts : List (List ℕ)
  pub are_texts : LinkTexts links texts
  pub fields : BytesTexts 2 texts text

bytes_append : (n : ℕ) (xs ys : List (List ℕ)) (a b : List ℕ) → BytesTexts n xs a → BytesTexts n ys b → BytesTexts n (xs ++ ys) (a ++ b)
bytes_append n [] ys a b p q = subst (λ (t : List ℕ). BytesTexts n ys (t ++ b)) (sym p) q
bytes_append n (x ∷ xs) ys a b p q = (p.0, p.1 ++ b, ap (λ (t : List ℕ). t ++ b) p.2 ∙ append_assoc p.0 p.1 b, p.3, bytes_append n xs ys p.1 b p.4 q)

pub one_link_more : (links : List Link) (link : Link) (old new : List ℕ) → HasLinks links old → Puts (λ bytes. LinkField link bytes) old new → HasLinks (links ++ link ∷ []) new
one_link_more links link old new h p = record {
  texts = h.texts ++ p.spells.content ∷ [];
  are_texts = texts_append links (link ∷ []) h.texts (p.spells.content ∷ []) h.are_texts (p.spells.is_text, tt);
  fields = subst (λ (t : List ℕ). BytesTexts 2 (h.texts ++ p.spells.content ∷ []) t) (sym p.whole)
      (bytes_append 2 h.texts (p.spells.content ∷ []) old p.bytes h.fields (p.bytes, [], sym (append-nil p.bytes), p.spells.field, refl));
}

pub node_written : (laws : TableLaws) → (node : Node) (old new : List ℕ) → HasLinks node.links old → Puts (λ bytes. BytesTexts 1 (listed node.payload) bytes) old new → CanonicalText node new
node_written laws node old new h p =
    let s = node_source h.texts node.payload in
    let fs = node_fields h.texts node.payload in
    let front = joined h.texts in
    let back = joined (listed node.payload) in
    let halves = node_halves h.texts node.payload in
    let first : FieldTexts s (spans 2 0 h.texts) old = spans_texts s [] 2 0 h.texts back old refl refl h.fields in
    let second : FieldTexts s (spans 1 (length front) (listed node.payload)) p.bytes = spans_texts s front 1 (length front) (listed node.payload) [] p.bytes (ap (λ (t : List ℕ). front ++ t) (sym (append-nil back))) refl p.spells in
    let all : FieldTexts s fs new = subst (λ (t : List ℕ). FieldTexts s fs t) (sym p.whole) (laws.writing.append s (spans 2 0 h.texts) (spans 1 (length front) (listed node.payload)) old p.bytes first second) in
    let got = laws.writing.message NODE.now Runs s fs new (node_ruled h.texts node.payload) (node_counts laws node h.texts h.are_texts) (halves_together 2 1 fs (omega arith) halves) all in
    record {
      is_text = record { fields = got.0; message = got.1; parts = node_again laws s new fs got.0 node got.2 (node_parts laws node h.texts h.are_texts) };
      order = first_links got.0 (same_halves 2 1 s new halves.front halves.rest got.0 got.2 halves.are_first halves.are_last);
    }

-- ---- what is put

pub content_put : (link : Link) (hash a b c d : List ℕ) → hash ≡ link.hash → Puts (λ bytes. BytesSpelling 1 hash bytes) a b → Puts (λ bytes. BytesTexts 2 (listed link.name) bytes) b c → Puts (λ bytes. NumberTexts 3 (listed link.tsize) bytes) c d
    → Puts (λ bytes. LinkContent link bytes) a d
content_put link hash a b c d e p q r = record {
  bytes = p.bytes ++ (q.bytes ++ r.bytes);
  whole = r.whole ∙ ap (λ (t : List ℕ). t ++ r.bytes) (q.whole ∙ ap (λ (t : List ℕ). t ++ q.bytes) p.whole) ∙ append_assoc (a ++ p.bytes) q.bytes r.bytes ∙ append_assoc a p.bytes (q.bytes ++ r.bytes);
  spells = record { hash = p.bytes; name = q.bytes; tsize = r.bytes; whole = refl; hash_is = subst (λ (t : List ℕ). BytesSpelling 1 t p.bytes) e p.spells; name_is = q.spells; tsize_is = r.spells };
}

-- the size is right, since the whole text has fewer bytes than the greatest number
pub link_put : (laws : TableLaws) → (link : Link) (size : ℕ) (a b c : List ℕ) → IsSizeOf (λ bytes. LinkContent link bytes) size → length c < 2 ^ 64
    → Puts (λ bytes. HeadSpelling 2 size bytes) a b → Puts (λ bytes. LinkContent link bytes) b c → Puts (λ bytes. LinkField link bytes) a c
link_put laws link size a b c s short p q =
    let fits : length q.bytes < 2 ^ 64 = omega (arith, ap length q.whole, length-append b q.bytes) in
    let right : size ≡ length q.bytes = s q.bytes q.spells ∙ (let e : min (length q.bytes) (2 ^ 64 - 1) ≡ length q.bytes = omega arith in e) in
    record {
      bytes = p.bytes ++ q.bytes;
      whole = q.whole ∙ ap (λ (t : List ℕ). t ++ q.bytes) p.whole ∙ append_assoc a p.bytes q.bytes;
      spells = record {
        content = q.bytes;
        is_text = link_written laws link q.bytes q.spells;
        field = record {
          head = p.bytes;
          whole = refl;
          head_is = subst (λ (n : ℕ). HeadSpelling 2 n p.bytes) right p.spells;
          are_bytes = laws.writing.are_bytes (link_source link) (link_fields link) q.bytes (link_texts laws link q.bytes q.spells);
        };
      };
    }
