-- The worked example's blocks are the canonical texts of their nodes, as a layout has them written.
use Rattle.std.proofs.Common.{◌≡◌, ◌<◌, ◌≤◌, ◌↔◌, ℕ, zero, suc, true, List, [], ◌∷◌, ◌++◌, Some, Ok, refl, sym, subst, arith}
use Rattle.std.proofs.lemmas.Bool.{and_parts, eqb-true, ltb-true}
use Rattle.std.proofs.lemmas.List.Elements.{All-cons, All-from_recursion, All-nil}
use Rattle.std.specs.List.{list_all}
use Rattle.std.specs.Prelude.{All, codes, nat_lt, slice_index, ◌==◌}
use Rattle.tg_cid.specs.Cid.{CidParts}
use Rattle.tg_cid.specs.Computed.{cid_of, v1_bytes}
use Rattle.tg_cid.specs.Spelling.{CidBytes}
use Rattle.tg_dagpb.specs.Computed.{link_in, node_of}
use Rattle.tg_dagpb.specs.Node.{CanonicalText, NodeText}
use Rattle.tg_dagpb.specs.declared.Link.{Link}
use Rattle.tg_dagpb.specs.declared.Node.{Node}
use Rattle.tg_dagpb.specs.declared.TheConstants.{NODE}
use Rattle.tg_model.specs.Dag.{with_child, no_child}
use Rattle.tg_model.specs.ImportLayout.{IsWritten, basic_unix, file_unix}
use Rattle.tg_oracle.proofs.HelloChecks.{bytes_tested}
use Rattle.tg_oracle.specs.HelloWorld.{d_block, f_block, f_cid, file_of, l1, l1_cid, l2, l2_cid, l3, l3_cid, leaf}
use Rattle.tg_pbtable.specs.Computed.{fields_of}
use Rattle.tg_pbtable.specs.Message.{IsTable, Message}
use Rattle.tg_pbtable.specs.declared.table.Field.{Field}
use Rattle.tg_pbtable.specs.declared.table.Order.{Order}
use Rattle.tg_pbtable.specs.declared.table.Order.TheVariants.{Ascending, Runs}
use Rattle.tg_pbtable.specs.declared.table.Rule.{Rule}
use Rattle.tg_pbtable.specs.declared.table.Value.TheVariants.{Number, Place}
use Rattle.tg_pbtable.specs.declared.table.Wire.TheVariants.{Varint, Bytes}
use Rattle.tg_pbtable.specs.Laws.{rises_from}
use Rattle.tg_unixfs.specs.Computed.{unix_of}
use Rattle.tg_unixfs.specs.Unix.{CanonicalText as CanonicalData, UnixText}
use Rattle.tg_unixfs.specs.declared.TheConstants.{DATA}
use Rattle.tg_unixfs.specs.declared.Unix.{Unix}

-- what is computed of a text of bytes is what the relations say of it
pub record Laws : Type 0 where
  pub fields : (rules : List Rule) (order : Order) (text : List ℕ) (fields : List Field) → IsTable rules
      → All (λ b. b < 256) text → (fields_of rules order text ≡ Ok fields) ↔ Message rules order text fields
  pub table : (rules : List Rule) → rises_from 0 rules ≡ true → IsTable rules
  pub node : (text : List ℕ) (node : Node) → All (λ b. b < 256) text → (node_of text ≡ Ok node) ↔ NodeText node text
  pub data_is : (text : List ℕ) (unix : Unix) → All (λ b. b < 256) text → (unix_of text ≡ Ok unix) ↔ UnixText unix text
  pub cid : (cid : CidParts) (bytes : List ℕ) → All (λ b. b < 256) bytes → CidBytes cid bytes ↔ (cid_of bytes ≡ Some cid)

-- fields that pass the test have the number
numbered : (number : ℕ) (fields : List Field) → list_all (λ field. field.number == number) fields ≡ true
    → All (λ (field : Field). field.number ≡ number) fields
numbered number [] e = All-nil (λ (field : Field). field.number ≡ number)
numbered number (field ∷ fields) e =
    let parts = and_parts (field.number == number) (list_all (λ f. f.number == number) fields) e in
    All-cons (λ (f : Field). f.number ≡ number) field fields (eqb-true field.number number parts.0) (numbered number fields parts.1)

-- so do fields that pass the test of a low number
low_numbers : (fields : List Field) → list_all (λ field. nat_lt field.number 7) fields ≡ true
    → All (λ (field : Field). field.number < 7) fields
low_numbers [] e = All-nil (λ (field : Field). field.number < 7)
low_numbers (field ∷ fields) e =
    let parts = and_parts (nat_lt field.number 7) (list_all (λ f. nat_lt f.number 7) fields) e in
    All-cons (λ (f : Field). f.number < 7) field fields (ltb-true field.number 7 parts.0) (low_numbers fields parts.1)

-- a field of bytes at a place
abbrev at_place : ℕ → ℕ → ℕ → Field
at_place number start end = record { number = number; wire = Bytes; value = Place start end }

-- a field of a number
abbrev of_number : ℕ → ℕ → Field
of_number number value = record { number = number; wire = Varint; value = Number value }

-- the numbers of the two rules of a node differ
numbers_differ : (i j : ℕ) → i < j → j < 2 → slice_index (1 ∷ 2 ∷ []) i ≡ slice_index (1 ∷ 2 ∷ []) j → ⊥
numbers_differ zero zero less few e = absurd (omega (arith, less))
numbers_differ zero (suc zero) less few e = cc
numbers_differ zero (suc (suc j)) less few e = absurd (omega (arith, few))
numbers_differ (suc i) j less few e = absurd (omega (arith, less, few))

-- so they are a table
node_table : IsTable NODE.now
node_table = record {
  low = All-from_recursion (λ (rule : Rule). 1 ≤ rule.number) NODE.now (omega arith, (omega arith, tt));
  high = All-from_recursion (λ (rule : Rule). rule.number < 536870912) NODE.now (omega arith, (omega arith, tt));
  differ = numbers_differ;
}

module _ (laws : Laws) where
  -- the text of a node is its canonical one where its fields are computed as those of links and then those of data
  canonical : (node : Node) (text : List ℕ) (links rest : List Field) → All (λ b. b < 256) text → NodeText node text
      → fields_of NODE.now Runs text ≡ Ok (links ++ rest) → All (λ (field : Field). field.number ≡ 2) links
      → All (λ (field : Field). field.number ≡ 1) rest → CanonicalText node text
  canonical node text links rest bytes is_text computed are_links are_data =
      let found : fields_of NODE.now Runs text ≡ Ok is_text.fields =
      (laws.fields NODE.now Runs text is_text.fields node_table bytes).1 is_text.message in
      let same : is_text.fields ≡ links ++ rest = cc in
      record { is_text = is_text; order = record { links = links; rest = rest; whole = same; are_links = are_links; are_data = are_data } }

  -- the text of data is its canonical one where its fields are computed and have low numbers
  canonical_data : (unix : Unix) (text : List ℕ) (fields : List Field) → All (λ b. b < 256) text → UnixText unix text
      → fields_of DATA.now Ascending text ≡ Ok fields → All (λ (field : Field). field.number < 7) fields → CanonicalData unix text
  canonical_data unix text fields bytes is_text computed low =
      let found : fields_of DATA.now Ascending text ≡ Ok is_text.fields =
      (laws.fields DATA.now Ascending text is_text.fields (laws.table DATA.now refl) bytes).1 is_text.message in
      let same : is_text.fields ≡ fields = cc in
      record { is_text = is_text; bare = subst (λ (fs : List Field). All (λ (field : Field). field.number < 7) fs) (sym same) low }

  -- a CID is spelled by its bytes as a CIDv1
  spelled : (cid : CidParts) → All (λ b. b < 256) (v1_bytes cid) → cid_of (v1_bytes cid) ≡ Some cid → CidBytes cid (v1_bytes cid)
  spelled cid bytes computed = (laws.cid cid (v1_bytes cid) bytes).1 computed

  -- the CIDs of the leaves and of the file
  l1_spelled : CidBytes l1_cid (v1_bytes l1_cid)
  unfolding cid_of
  l1_spelled = spelled l1_cid (bytes_tested (v1_bytes l1_cid) refl) refl

  l2_spelled : CidBytes l2_cid (v1_bytes l2_cid)
  unfolding cid_of
  l2_spelled = spelled l2_cid (bytes_tested (v1_bytes l2_cid) refl) refl

  l3_spelled : CidBytes l3_cid (v1_bytes l3_cid)
  unfolding cid_of
  l3_spelled = spelled l3_cid (bytes_tested (v1_bytes l3_cid) refl) refl

  f_spelled : CidBytes f_cid (v1_bytes f_cid)
  unfolding cid_of
  f_spelled = spelled f_cid (bytes_tested (v1_bytes f_cid) refl) refl

  -- the payload of the directory, and its one link, with the file's Tsize
  abbrev d_payload : List ℕ
  d_payload = 8 ∷ 1 ∷ []

  abbrev d_links : List Link
  d_links = record { hash = v1_bytes f_cid; name = Some (codes "h"); tsize = Some 155 } ∷ []

  -- the directory's block is the text of its node, and the canonical one; the payload is that of a directory
  d_text : NodeText (record { links = d_links; payload = Some d_payload }) d_block
  unfolding fields_of link_in node_of
  d_text = (laws.node d_block (record { links = d_links; payload = Some d_payload }) (bytes_tested d_block refl)).0 refl

  d_canonical : CanonicalText (record { links = d_links; payload = Some d_payload }) d_block
  unfolding fields_of
  d_canonical =
      canonical (record { links = d_links; payload = Some d_payload }) d_block (at_place 2 2 46 ∷ []) (at_place 1 48 50 ∷ [])
      (bytes_tested d_block refl) d_text refl (numbered 2 (at_place 2 2 46 ∷ []) refl) (numbered 1 (at_place 1 48 50 ∷ []) refl)

  d_data : UnixText basic_unix d_payload
  unfolding fields_of unix_of
  d_data = (laws.data_is d_payload basic_unix (bytes_tested d_payload refl)).0 refl

  d_unix : CanonicalData basic_unix d_payload
  unfolding fields_of
  d_unix = canonical_data basic_unix d_payload (of_number 1 1 ∷ []) (bytes_tested d_payload refl) d_data refl (low_numbers (of_number 1 1 ∷ []) refl)

  -- the directory's block is written for its entry
  pub d_written : IsWritten d_block (codes "h" ∷ []) (with_child (file_of (leaf l1) (leaf l2) (leaf l3)) no_child) basic_unix
  d_written = record { links = d_links; payload = d_payload; text = d_canonical; unix_is = d_unix; links_are = (f_spelled, refl, refl, tt) }

  -- the payload of the file, and its links to the leaves
  abbrev f_payload : List ℕ
  f_payload = 8 ∷ 2 ∷ 24 ∷ 11 ∷ 32 ∷ 4 ∷ 32 ∷ 4 ∷ 32 ∷ 3 ∷ []

  abbrev part_link : CidParts → ℕ → Link
  part_link cid size = record { hash = v1_bytes cid; name = Some []; tsize = Some size }

  abbrev f_links : List Link
  f_links = part_link l1_cid 4 ∷ part_link l2_cid 4 ∷ part_link l3_cid 3 ∷ []

  -- the file's block is the text of its node, and the canonical one; the payload is that of a file of 11 bytes in three parts
  f_text : NodeText (record { links = f_links; payload = Some f_payload }) f_block
  unfolding fields_of link_in node_of
  f_text = (laws.node f_block (record { links = f_links; payload = Some f_payload }) (bytes_tested f_block refl)).0 refl

  f_canonical : CanonicalText (record { links = f_links; payload = Some f_payload }) f_block
  unfolding fields_of
  f_canonical =
      canonical (record { links = f_links; payload = Some f_payload }) f_block
      (at_place 2 2 44 ∷ at_place 2 46 88 ∷ at_place 2 90 132 ∷ []) (at_place 1 134 144 ∷ [])
      (bytes_tested f_block refl) f_text refl
      (numbered 2 (at_place 2 2 44 ∷ at_place 2 46 88 ∷ at_place 2 90 132 ∷ []) refl) (numbered 1 (at_place 1 134 144 ∷ []) refl)

  f_data : UnixText (file_unix 11 (4 ∷ 4 ∷ 3 ∷ [])) f_payload
  unfolding fields_of unix_of
  f_data = (laws.data_is f_payload (file_unix 11 (4 ∷ 4 ∷ 3 ∷ [])) (bytes_tested f_payload refl)).0 refl

  abbrev f_fields : List Field
  f_fields = of_number 1 2 ∷ of_number 3 11 ∷ of_number 4 4 ∷ of_number 4 4 ∷ of_number 4 3 ∷ []

  f_unix : CanonicalData (file_unix 11 (4 ∷ 4 ∷ 3 ∷ [])) f_payload
  unfolding fields_of
  f_unix = canonical_data (file_unix 11 (4 ∷ 4 ∷ 3 ∷ [])) f_payload f_fields (bytes_tested f_payload refl) f_data refl (low_numbers f_fields refl)

  -- the file's block is written for its leaves
  pub f_written : IsWritten f_block ([] ∷ [] ∷ [] ∷ []) (with_child (leaf l1) (with_child (leaf l2) (with_child (leaf l3) no_child))) (file_unix 11 (4 ∷ 4 ∷ 3 ∷ []))
  f_written = record {
    links = f_links;
    payload = f_payload;
    text = f_canonical;
    unix_is = f_unix;
    links_are = (l1_spelled, refl, refl, (l2_spelled, refl, refl, (l3_spelled, refl, refl, tt)));
  }
