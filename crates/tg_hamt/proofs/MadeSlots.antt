-- The slots of a shard that is being made, one by one.
use Rattle.std.proofs.Common.{◌≡◌, ◌⊎◌, inl, inr, ⊎_elim, ℕ, ◌≤◌, List, Option, None, Some, [], ◌∷◌, ◌++◌, length, get_or, suc, refl, ap, ap₂, sym, ◌∙◌, arith}
use Rattle.std.specs.List.{flat_map, sum_by}
use Rattle.std.specs.Prelude.{All, Contains, map, unwrap_or}
use Rattle.std.proofs.lemmas.List.Elements.{All-append, All-head, All-nil, All-tail, All-cons, All-contains_itself, Contains-append_cases, Contains-append_left, Contains-append_right}
use Rattle.std.proofs.lemmas.List.Sums.{sum_by-cons}
use Rattle.std.proofs.lemmas.List.{length-map, map-append}
use Rattle.tg_cid.specs.Cid.{CidParts}
use Rattle.tg_dagpb.specs.declared.Link.{Link}
use Rattle.tg_bytes.specs.Lists.{All-split}
use Rattle.tg_hamt.specs.Links.{child_link_of, entry_link_of, tsize_in}
use Rattle.tg_hamt.specs.Order.{IsGoodEntry, entry_at}
use Rattle.tg_hamt.specs.Shards.{AreLaidIn, IsBelow, IsMadeShard, IsOfShard, LeadsTo, in_child, listed_as, shards_of, shards_of_slots}
use Rattle.tg_hamt.specs.declared.order.Hashed.{Hashed}
use Rattle.tg_model_laws.specs.Places.{StandsBehind}
use Rattle.tg_model.specs.Content.{DirEntry, entries, entries_of_slots, slot_entries}
use Rattle.tg_model.specs.Dag.{AreWhole, Children, Dag, IsWhole, Section, blocks, blocks_of_children, no_child, node, root_cid, root_cids, with_child}
use Rattle.tg_model.specs.ImportLayout.{AreLaidAt, HasPlainCid, IsLaidAt, LayoutOptions, link_name, tsize_of, tsizes_of}
use Rattle.tg_model.specs.Reading.{AreSlots, IsSlotName, name_of}
use Rattle.tg_model.specs.Sound.{AreCheckedAt, IsCheckedAt, slot_position, top}
use Rattle.tg_model.specs.declared.kinds.Kind.TheVariants.{Shard}
use Rattle.tg_model.specs.declared.kinds.Made.{Made}
use Rattle.tg_model.specs.declared.kinds.NewEntry.{NewEntry}
use Rattle.tg_model.specs.declared.kinds.Slot.{Slot}
use Rattle.tg_node_writing.specs.Nodes.{LeadTo}

-- a used slot: the entries in it, the link that was written for it, what it is read as, the DAG under it, and its child shard's sections
pub record MadeSlot : Type 0 where
  pub run : List Hashed
  pub link : NewEntry
  pub slot : Slot
  pub dag : Dag
  pub own : List Section

pub record IsMadeSlot (es : List NewEntry) (dags : ℕ → Dag) (above : List ℕ) (m : MadeSlot) : Type 0 where
  pub named : m.link.name ≡ link_name m.slot
  pub link_cid : m.link.cid ≡ m.slot.cid
  pub root : root_cid m.dag ≡ m.slot.cid
  pub tsize : m.link.tsize ≡ tsize_of m.dag
  pub name_is : IsSlotName (unwrap_or m.slot.name []) m.slot.name
  pub stands : StandsBehind (above ++ m.slot.slot ∷ []) m.slot.name
  pub whole : IsWhole m.dag
  pub checked : IsCheckedAt (slot_position above m.slot) m.dag
  pub listed : slot_entries m.slot.name m.dag (entries m.dag) ≡ map (listed_as es dags) m.run
  pub own_is : in_child m.slot.name (shards_of m.dag) ≡ m.own
  pub blocks_are : (s : Section) → Contains (blocks m.dag) s → Contains m.own s ⊎ IsBelow dags m.run s
  pub own_blocks : (s : Section) → Contains m.own s → Contains (blocks m.dag) s
  pub plain : All HasPlainCid m.own
  pub laid : (options : LayoutOptions) → AreLaidIn options dags m.run → IsLaidAt options (slot_position above m.slot) m.dag
  pub of_shard : All (IsOfShard es dags) m.own

-- ---- a slot with an entry

abbrev pub entry_slot : ℕ → NewEntry → Hashed → Dag → MadeSlot
entry_slot s e item d = record { run = item ∷ []; link = entry_link_of s e; slot = record { slot = s; name = Some e.name; cid = e.cid }; dag = d; own = [] }

abbrev one_listed : List ℕ → Dag → List DirEntry
one_listed name d = record { name = name; dag = d } ∷ []

pub entry_made : (es : List NewEntry) (dags : ℕ → Dag) (above : List ℕ) (s : ℕ) (item : Hashed) (e : NewEntry) → e ≡ entry_at es item.index → IsGoodEntry e
    → LeadsTo es dags item → StandsBehind (above ++ s ∷ []) (Some e.name) → IsMadeSlot es dags above (entry_slot s e item (dags item.index))
entry_made es dags above s item e is good leads stands = record {
  named = refl;
  link_cid = refl;
  root = sym (ap (λ (x : NewEntry). x.cid) is ∙ leads.cid);
  tsize = ap (λ (x : NewEntry). x.tsize) is ∙ leads.tsize;
  name_is = (refl, good.name);
  stands = stands;
  whole = leads.sound.whole;
  checked = leads.sound.checked;
  listed = ap (λ (x : NewEntry). one_listed x.name (dags item.index)) is;
  own_is = refl;
  blocks_are = λ b h. inr (record { item = item; among = (0, omega arith, refl); has = h });
  own_blocks = λ b h. absurd (omega (arith, h.1));
  plain = All-nil HasPlainCid;
  laid = λ options laid. All-head (λ (x : Hashed). IsLaidAt options top (dags x.index)) item [] laid;
  of_shard = All-nil (IsOfShard es dags);
}

-- ---- a slot with a child shard

pub shard_dag : (es : List NewEntry) (dags : ℕ → Dag) (run : List Hashed) (above : List ℕ) (made : Made) (own : List Section) → IsMadeShard es dags run above made own → Dag
shard_dag es dags run above made own sh = node sh.section (Shard sh.slots) sh.children

abbrev pub child_slot : ℕ → List Hashed → Made → Dag → List Section → MadeSlot
child_slot s run made d own = record { run = run; link = child_link_of s made; slot = record { slot = s; name = None; cid = made.cid }; dag = d; own = own }

pub of_shards : (es : List NewEntry) (dags : ℕ → Dag) (run : List Hashed) (above : List ℕ) (made : Made) (own : List Section) → IsMadeShard es dags run above made own
    → (sections : List Section) → ((s : Section) → Contains sections s → Contains own s) → All (IsOfShard es dags) sections
of_shards es dags run above made own sh sections among = λ k d lt. record {
  order = run;
  above = above;
  made = made;
  sections = own;
  shard = sh;
  has = among (get_or sections k d) (All-contains_itself sections k d lt);
}

pub child_made : (es : List NewEntry) (dags : ℕ → Dag) (above : List ℕ) (s : ℕ) (run : List Hashed) (made : Made) (own : List Section)
    → (sh : IsMadeShard es dags run (above ++ s ∷ []) made own) → 2 ≤ length run
    → IsMadeSlot es dags above (child_slot s run made (shard_dag es dags run (above ++ s ∷ []) made own sh) own)
unfolding shard_dag
child_made es dags above s run made own sh many = record {
  named = refl;
  link_cid = refl;
  root = sym sh.cid_is;
  tsize = sh.tsize_is;
  name_is = refl;
  stands = tt;
  whole = sh.whole;
  checked = (sh.stands, sh.checked);
  listed = sh.listed;
  own_is = sh.sections_are;
  blocks_are = sh.blocks_are;
  own_blocks = sh.own_blocks;
  plain = sh.plain;
  laid = λ options laid.
      let count : length (entries_of_slots sh.slots sh.children) ≡ length run = ap length sh.listed ∙ length-map run (listed_as es dags) in
      (omega arith, sh.written, sh.laid options laid);
  of_shard = of_shards es dags run (above ++ s ∷ []) made own sh own (λ s h. h);
}

-- ---- lists

-- a name that isn't empty is told
named_link : (name : Option (List ℕ)) (b : ℕ) (rest : List ℕ) → unwrap_or name [] ≡ b ∷ rest → name ≡ Some (b ∷ rest)
named_link None b rest e = absurd (let f : 0 ≡ suc (length rest) = ap length e in omega arith)
named_link (Some name) b rest e = ap (λ (n : List ℕ). Some n) e

-- ---- all slots of a shard

abbrev pub links_of : List MadeSlot → List NewEntry
links_of ms = map (λ m. m.link) ms

abbrev pub slots_in : List MadeSlot → List Slot
slots_in ms = map (λ m. m.slot) ms

abbrev pub children_in : List MadeSlot → Children
children_in [] = no_child
children_in (m ∷ ms) = with_child m.dag (children_in ms)

abbrev pub runs_in : List MadeSlot → List Hashed
runs_in ms = flat_map (λ m. m.run) ms

abbrev pub own_in : List MadeSlot → List Section
own_in ms = flat_map (λ m. m.own) ms

abbrev pub numbers_in : List MadeSlot → List ℕ
numbers_in ms = map (λ m. m.slot.slot) ms

module _ (es : List NewEntry) (dags : ℕ → Dag) (above : List ℕ) where
  abbrev Good : MadeSlot → Type 0
  Good = IsMadeSlot es dags above

  pub roots_are : (ms : List MadeSlot) → All Good ms → root_cids (children_in ms) ≡ map (λ s. s.cid) (slots_in ms)
  roots_are [] h = refl
  roots_are (m ∷ ms) h = ap₂ (λ (c : CidParts) (cs : List CidParts). c ∷ cs) (All-head Good m ms h).root (roots_are ms (All-tail Good m ms h))

  pub links_lead : (ms : List MadeSlot) → All Good ms → LeadTo (links_of ms) (children_in ms)
  links_lead [] h = tt
  links_lead (m ∷ ms) h = let g = All-head Good m ms h in (g.link_cid ∙ sym g.root, g.tsize, links_lead ms (All-tail Good m ms h))

  pub all_whole : (ms : List MadeSlot) → All Good ms → AreWhole (children_in ms)
  all_whole [] h = tt
  all_whole (m ∷ ms) h = ((All-head Good m ms h).whole, all_whole ms (All-tail Good m ms h))

  pub all_checked : (ms : List MadeSlot) → All Good ms → AreCheckedAt (map (slot_position above) (slots_in ms)) (children_in ms)
  all_checked [] h = tt
  all_checked (m ∷ ms) h = ((All-head Good m ms h).checked, all_checked ms (All-tail Good m ms h))

  pub all_listed : (ms : List MadeSlot) → All Good ms → entries_of_slots (slots_in ms) (children_in ms) ≡ map (listed_as es dags) (runs_in ms)
  all_listed [] h = refl
  all_listed (m ∷ ms) h =
      ap₂ (λ (a b : List DirEntry). a ++ b) (All-head Good m ms h).listed (all_listed ms (All-tail Good m ms h))
      ∙ sym (map-append (listed_as es dags) m.run (runs_in ms))

  pub all_own : (ms : List MadeSlot) → All Good ms → shards_of_slots (slots_in ms) (children_in ms) ≡ own_in ms
  all_own [] h = refl
  all_own (m ∷ ms) h = ap₂ (λ (a b : List Section). a ++ b) (All-head Good m ms h).own_is (all_own ms (All-tail Good m ms h))

  pub all_plain : (ms : List MadeSlot) → All Good ms → All HasPlainCid (own_in ms)
  all_plain [] h = All-nil HasPlainCid
  all_plain (m ∷ ms) h = All-append HasPlainCid m.own (own_in ms) (All-head Good m ms h).plain (all_plain ms (All-tail Good m ms h))

  pub all_blocks : (ms : List MadeSlot) → All Good ms → (b : Section) → Contains (blocks_of_children (children_in ms)) b → Contains (own_in ms) b ⊎ IsBelow dags (runs_in ms) b
  all_blocks [] h b has = absurd (omega (arith, has.1))
  all_blocks (m ∷ ms) h b has = ⊎_elim
      (λ (here : Contains (blocks m.dag) b).
      ⊎_elim
      (λ (own : Contains m.own b). inl (Contains-append_left m.own (own_in ms) b own))
      (λ (below : IsBelow dags m.run b). inr (record { item = below.item; among = Contains-append_left m.run (runs_in ms) below.item below.among; has = below.has }))
      ((All-head Good m ms h).blocks_are b here))
      (λ (there : Contains (blocks_of_children (children_in ms)) b).
      ⊎_elim
      (λ (own : Contains (own_in ms) b). inl (Contains-append_right m.own (own_in ms) b own))
      (λ (below : IsBelow dags (runs_in ms) b). inr (record { item = below.item; among = Contains-append_right m.run (runs_in ms) below.item below.among; has = below.has }))
      (all_blocks ms (All-tail Good m ms h) b there))
      (Contains-append_cases (blocks m.dag) (blocks_of_children (children_in ms)) b has)

  pub all_own_blocks : (ms : List MadeSlot) → All Good ms → (b : Section) → Contains (own_in ms) b → Contains (blocks_of_children (children_in ms)) b
  all_own_blocks [] h b has = absurd (omega (arith, has.1))
  all_own_blocks (m ∷ ms) h b has = ⊎_elim
      (λ (here : Contains m.own b). Contains-append_left (blocks m.dag) (blocks_of_children (children_in ms)) b ((All-head Good m ms h).own_blocks b here))
      (λ (there : Contains (own_in ms) b). Contains-append_right (blocks m.dag) (blocks_of_children (children_in ms)) b (all_own_blocks ms (All-tail Good m ms h) b there))
      (Contains-append_cases m.own (own_in ms) b has)

  pub all_of_shards : (ms : List MadeSlot) → All Good ms → All (IsOfShard es dags) (own_in ms)
  all_of_shards [] h = All-nil (IsOfShard es dags)
  all_of_shards (m ∷ ms) h = All-append (IsOfShard es dags) m.own (own_in ms) (All-head Good m ms h).of_shard (all_of_shards ms (All-tail Good m ms h))

  pub all_named : (ms : List MadeSlot) → All Good ms → map (λ (l : NewEntry). l.name) (links_of ms) ≡ map link_name (slots_in ms)
  all_named [] h = refl
  all_named (m ∷ ms) h = ap₂ (λ (a : List ℕ) (b : List (List ℕ)). a ∷ b) (All-head Good m ms h).named (all_named ms (All-tail Good m ms h))

  pub all_cids : (ms : List MadeSlot) → All Good ms → map (λ (l : NewEntry). l.cid) (links_of ms) ≡ map (λ s. s.cid) (slots_in ms)
  all_cids [] h = refl
  all_cids (m ∷ ms) h = ap₂ (λ (c : CidParts) (cs : List CidParts). c ∷ cs) (All-head Good m ms h).link_cid (all_cids ms (All-tail Good m ms h))

  pub all_tsizes : (ms : List MadeSlot) → All Good ms → sum_by tsize_in (links_of ms) ≡ tsizes_of (children_in ms)
  all_tsizes [] h = refl
  all_tsizes (m ∷ ms) h =
      let here = (All-head Good m ms h).tsize in
      let rest = all_tsizes ms (All-tail Good m ms h) in
      let sums = sum_by-cons tsize_in m.link (links_of ms) in
      omega (arith, here, rest, sums)

  pub all_stand : (ms : List MadeSlot) → All Good ms → All (λ slot. StandsBehind (above ++ slot.slot ∷ []) slot.name) (slots_in ms)
  all_stand [] h = All-nil (λ (slot : Slot). StandsBehind (above ++ slot.slot ∷ []) slot.name)
  all_stand (m ∷ ms) h = All-cons (λ (slot : Slot). StandsBehind (above ++ slot.slot ∷ []) slot.name) m.slot (slots_in ms) (All-head Good m ms h).stands (all_stand ms (All-tail Good m ms h))

  pub all_laid : (options : LayoutOptions) (ms : List MadeSlot) → All Good ms → AreLaidIn options dags (runs_in ms)
      → AreLaidAt options (map (slot_position above) (slots_in ms)) (children_in ms)
  all_laid options [] h laid = tt
  all_laid options (m ∷ ms) h laid =
      let parts = All-split (λ (x : Hashed). IsLaidAt options top (dags x.index)) m.run (runs_in ms) laid in
      ((All-head Good m ms h).laid options parts.0, all_laid options ms (All-tail Good m ms h) parts.1)

  -- the links as they are read
  pub all_read : (ms : List MadeSlot) (links : List Link) → All Good ms → map name_of links ≡ map link_name (slots_in ms)
      → AreSlots (numbers_in ms) links (map (λ s. s.cid) (slots_in ms)) (slots_in ms)
  all_read [] [] h e = tt
  all_read [] (link ∷ links) h e = absurd (let f : suc (length (map name_of links)) ≡ 0 = ap length e in omega arith)
  all_read (m ∷ ms) [] h e = absurd (let f : 0 ≡ suc (length (map link_name (slots_in ms))) = ap length e in omega arith)
  all_read (m ∷ ms) (link ∷ links) h e =
      let g = All-head Good m ms h in
      let head : name_of link ≡ link_name m.slot = cc e in
      let tail : map name_of links ≡ map link_name (slots_in ms) = cc e in (
        record {
          suffix = unwrap_or m.slot.name [];
          begins = named_link link.name _ _ head;
          name_is = g.name_is;
          number_is = refl;
          cid_is = refl;
        },
        all_read ms links (All-tail Good m ms h) tail,
      )
