-- The DAG of a directory in one block, over the DAGs to which its entries lead.
use Rattle.std.proofs.Common.{◌≡◌, inl, inr, ℕ, suc, ◌≤◌, List, [], ◌∷◌, length, refl, ap, ap₂, sym, subst, arith}
use Rattle.std.specs.List.{IsDistinct, sum_by}
use Rattle.std.specs.Prelude.{All, bytes_eq, map}
use Rattle.std.proofs.lemmas.List.Elements.{All-head, All-tail}
use Rattle.std.proofs.lemmas.List.Sums.{sum_by-cons}
use Rattle.tg_cid.specs.Cid.{CidParts}
use Rattle.tg_dagpb.specs.declared.Link.{Link}
use Rattle.tg_dir.proofs.Orders.{basic_entry}
use Rattle.tg_dir.proofs.Pairs.{EntryDag, IsLed, children_in, entries_in, listed}
use Rattle.tg_model.specs.Content.{DirEntry, entries, named_children}
use Rattle.tg_model.specs.Dag.{AreWhole, Dag, node, root_cids}
use Rattle.tg_model.specs.EntryNames.{IsGoodName}
use Rattle.tg_model.specs.ImportLayout.{AreLaidAt, AreSorted, IsLaidAt, IsWritten, LayoutOptions, basic_unix, tsizes_of, weight_of}
use Rattle.tg_model.specs.Reading.{ReadsNode, entries_of, name_of}
use Rattle.tg_model.specs.Sound.{AreCheckedAt, IsSound, top}
use Rattle.tg_model.specs.declared.kinds.Entry.{Entry}
use Rattle.tg_model.specs.declared.kinds.Kind.TheVariants.{Basic}
use Rattle.tg_model.specs.declared.kinds.NewEntry.{NewEntry}
use Rattle.tg_node_writing.specs.Nodes.{IsNodeOf, LeadTo, NodeLaws}
use Rattle.tg_node_writing.specs.Keeping.{section_of}
use Rattle.tg_cid.specs.declared.cid.Codec.TheVariants.{DagPb}

-- the links are read as the entries
read_entries : (links : List Link) (es : List NewEntry) → map name_of links ≡ map (λ (e : NewEntry). e.name) es
    → map basic_entry es ≡ entries_of links (map (λ (e : NewEntry). e.cid) es)
read_entries [] [] same = refl
read_entries [] (e ∷ es) same = absurd (let f : 0 ≡ suc (length (map (λ (e : NewEntry). e.name) es)) = ap length same in omega arith)
read_entries (link ∷ links) [] same = absurd (let f : suc (length (map name_of links)) ≡ 0 = ap length same in omega arith)
read_entries (link ∷ links) (e ∷ es) same =
    let head : e.name ≡ name_of link = cc same in
    let tail : map name_of links ≡ map (λ (x : NewEntry). x.name) es = cc same in
    ap₂ (λ (name : List ℕ) (rest : List Entry). record { name = name; cid = e.cid } ∷ rest) head (read_entries links es tail)

pub reads_basic : NodeLaws → (es : List NewEntry) (block : List ℕ) → IsNodeOf es basic_unix block
    → All IsGoodName (map (λ (e : NewEntry). e.name) es) → IsDistinct bytes_eq (map (λ (e : NewEntry). e.name) es) → ReadsNode block (Basic (map basic_entry es))
reads_basic laws es block written good differ =
    let u = laws.unix_node es basic_unix block written in
    record {
      links = u.0;
      cids = map (λ (e : NewEntry). e.cid) es;
      unix = basic_unix;
      node = u.1;
      reads = inr (inl (record {
        type_is = refl;
        good = subst (All IsGoodName) (sym u.2) good;
        differ = subst (IsDistinct bytes_eq) (sym u.2) differ;
        kind_is = ap Basic (read_entries u.0 es u.2);
      }));
    }

-- ---- the entries' DAGs

roots_are : (pairs : List EntryDag) → All IsLed pairs → root_cids (children_in pairs) ≡ map (λ (e : Entry). e.cid) (map basic_entry (entries_in pairs))
roots_are [] h = refl
roots_are (pair ∷ pairs) h = ap₂ (λ (c : CidParts) (cs : List CidParts). c ∷ cs) (sym (All-head IsLed pair pairs h).cid) (roots_are pairs (All-tail IsLed pair pairs h))

pub all_lead : (pairs : List EntryDag) → All IsLed pairs → LeadTo (entries_in pairs) (children_in pairs)
all_lead [] h = tt
all_lead (pair ∷ pairs) h = let g = All-head IsLed pair pairs h in (g.cid, g.tsize, all_lead pairs (All-tail IsLed pair pairs h))

all_whole : (pairs : List EntryDag) → All IsLed pairs → AreWhole (children_in pairs)
all_whole [] h = tt
all_whole (pair ∷ pairs) h = ((All-head IsLed pair pairs h).sound.whole, all_whole pairs (All-tail IsLed pair pairs h))

all_checked : (pairs : List EntryDag) → All IsLed pairs → AreCheckedAt (map (λ (e : Entry). top) (map basic_entry (entries_in pairs))) (children_in pairs)
all_checked [] h = tt
all_checked (pair ∷ pairs) h = ((All-head IsLed pair pairs h).sound.checked, all_checked pairs (All-tail IsLed pair pairs h))

pub all_listed : (pairs : List EntryDag) → named_children (map basic_entry (entries_in pairs)) (children_in pairs) ≡ map listed pairs
all_listed [] = refl
all_listed (pair ∷ pairs) = ap (λ (l : List DirEntry). listed pair ∷ l) (all_listed pairs)

pub all_tsizes : (pairs : List EntryDag) → All IsLed pairs → sum_by (λ (e : NewEntry). e.tsize) (entries_in pairs) ≡ tsizes_of (children_in pairs)
all_tsizes [] h = refl
all_tsizes (pair ∷ pairs) h =
    let here = (All-head IsLed pair pairs h).tsize in
    let rest = all_tsizes pairs (All-tail IsLed pair pairs h) in
    let sums = sum_by-cons (λ (e : NewEntry). e.tsize) pair.entry (entries_in pairs) in
    omega (arith, here, rest, sums)

all_laid_at : (options : LayoutOptions) (pairs : List EntryDag) → All (λ (pair : EntryDag). IsLaidAt options top pair.dag) pairs
    → AreLaidAt options (map (λ (e : Entry). top) (map basic_entry (entries_in pairs))) (children_in pairs)
all_laid_at options [] h = tt
all_laid_at options (pair ∷ pairs) h = (
  All-head (λ (p : EntryDag). IsLaidAt options top p.dag) pair pairs h,
  all_laid_at options pairs (All-tail (λ (p : EntryDag). IsLaidAt options top p.dag) pair pairs h),
)

-- ---- the directory

abbrev pub basic_dag : List EntryDag → List ℕ → Dag
basic_dag pairs block = node (section_of DagPb block) (Basic (map basic_entry (entries_in pairs))) (children_in pairs)

pub basic_sound : NodeLaws → (pairs : List EntryDag) (block : List ℕ) → IsNodeOf (entries_in pairs) basic_unix block → All IsLed pairs
    → All IsGoodName (map (λ (e : NewEntry). e.name) (entries_in pairs)) → IsDistinct bytes_eq (map (λ (e : NewEntry). e.name) (entries_in pairs)) → IsSound (basic_dag pairs block)
basic_sound laws pairs block written led good differ = record {
  whole = all_whole pairs led;
  checked = (
    record {
      named = refl;
      reads = reads_basic laws (entries_in pairs) block written good differ;
      links = roots_are pairs led;
      stands = refl;
      of_size = tt;
      tells_size = tt;
    },
    all_checked pairs led,
  );
}

map_names : (es : List NewEntry) → map (λ (e : Entry). e.name) (map basic_entry es) ≡ map (λ (e : NewEntry). e.name) es
map_names [] = refl
map_names (e ∷ es) = ap (λ (l : List (List ℕ)). e.name ∷ l) (map_names es)

pub basic_laid : NodeLaws → (options : LayoutOptions) (pairs : List EntryDag) (block : List ℕ) → IsNodeOf (entries_in pairs) basic_unix block → All IsLed pairs
    → AreSorted (map basic_entry (entries_in pairs)) → weight_of (entries (basic_dag pairs block)) ≤ options.shard
    → All (λ (pair : EntryDag). IsLaidAt options top pair.dag) pairs → IsLaidAt options top (basic_dag pairs block)
basic_laid laws options pairs block written led sorted light laid = (
  light,
  sorted,
  subst (λ (names : List (List ℕ)). IsWritten block names (children_in pairs) basic_unix) (sym (map_names (entries_in pairs)))
      (laws.written (entries_in pairs) basic_unix block (children_in pairs) written (all_lead pairs led)),
  all_laid_at options pairs laid,
)
