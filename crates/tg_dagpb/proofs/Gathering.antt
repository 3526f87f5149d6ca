-- A link gathered from the fields of a message has them as its parts, and texts of links one behind another.
use Rattle.std.proofs.Common.{◌≡◌, ℕ, ◌≤◌, Some, List, [], ◌∷◌, ◌++◌, refl, sym, ap, ap₂, ◌∙◌, subst, arith}
use Rattle.std.specs.Prelude.{slice_range}
use Rattle.tg_pbtable.specs.declared.table.Field.{Field}
use Rattle.tg_pbtable.specs.declared.table.Value.{Value}
use Rattle.tg_pbtable.specs.declared.table.Value.TheVariants.{Place}
use Rattle.tg_pbtable.specs.declared.table.Order.TheVariants.{Ascending}
use Rattle.tg_pbtable.specs.Message.{Message, count_of}
use Rattle.tg_pbtable.specs.Values.{numbers_at, bytes_at}
use Rattle.tg_pbtable.specs.Laws.{TableLaws}
use Rattle.tg_pbtable.specs.TableRules.{any_rule, rule_at}
use Rattle.tg_dagpb.specs.declared.TheConstants.{LINK}
use Rattle.tg_dagpb.specs.declared.Link.{Link}
use Rattle.tg_dagpb.specs.Node.{LinkTexts, LinkText}
use Rattle.tg_dagpb.specs.Reading.{GathersLink, no_link}
use Rattle.tg_dagpb.proofs.Parts.{link_table}

-- ---- links

pub link_more : (laws : TableLaws) → (text : List ℕ) (fs : List Field) (f : Field) (a b c : Link) → GathersLink text fs a b → GathersLink text (f ∷ []) b c → GathersLink text (fs ++ f ∷ []) a c
link_more laws text fs f a b c p q =
    let one = f ∷ [] in
    record {
      hash = laws.last_bytes.later_more (Some a.hash) (Some b.hash) (Some c.hash) (bytes_at text 1 fs) (bytes_at text 1 one) (bytes_at text 1 (fs ++ one)) (laws.values.bytes_append text 1 fs one) p.hash q.hash;
      name = laws.last_bytes.later_more a.name b.name c.name (bytes_at text 2 fs) (bytes_at text 2 one) (bytes_at text 2 (fs ++ one)) (laws.values.bytes_append text 2 fs one) p.name q.name;
      tsize = laws.last_number.later_more a.tsize b.tsize c.tsize (numbers_at 3 fs) (numbers_at 3 one) (numbers_at 3 (fs ++ one)) (laws.values.numbers_append 3 fs one) p.tsize q.tsize;
    }

pub gathered_link : (laws : TableLaws) → (text : List ℕ) (fs : List Field) (link : Link) → Message LINK.now Ascending text fs → GathersLink text fs no_link link → LinkText link text
gathered_link laws text fs link m g =
    let one : count_of fs 1 ≡ 1 = m.counts 0 any_rule (omega arith) in
    let two : count_of fs 2 ≤ 1 = m.counts 1 any_rule (omega arith) in
    let three : count_of fs 3 ≤ 1 = m.counts 2 any_rule (omega arith) in
    record {
      fields = fs;
      message = m;
      parts = record {
        hash = laws.last_bytes.exactly_one [] (bytes_at text 1 fs) link.hash (laws.values.all_bytes LINK.now text 1 fs (link_table laws) (rule_at LINK.now 0 (omega arith)) m.ruled ∙ one) g.hash;
        name = laws.last_bytes.at_most_one (bytes_at text 2 fs) link.name (omega (arith, laws.values.count text 2 fs)) g.name;
        tsize = laws.last_number.at_most_one (numbers_at 3 fs) link.tsize (omega (arith, laws.values.count text 3 fs)) g.tsize;
      };
    }

-- ---- nodes

pub texts_append : (ls ms : List Link) (xs ys : List (List ℕ)) → LinkTexts ls xs → LinkTexts ms ys → LinkTexts (ls ++ ms) (xs ++ ys)
texts_append [] ms [] ys p q = q
texts_append [] ms (x ∷ xs) ys p q = absurd p
texts_append (a ∷ ls) ms [] ys p q = absurd p
texts_append (a ∷ ls) ms (x ∷ xs) ys p q = (p.0, texts_append ls ms xs ys p.1 q)

-- ---- a hash and a name put into a link

pub hash_put : (text : List ℕ) (f : Field) (from to : ℕ) (old : Link) (hash : List ℕ) → f.number ≡ 1 → f.value ≡ Place from to → hash ≡ slice_range text from to
    → GathersLink text (f ∷ []) old (record { hash = hash; name = old.name; tsize = old.tsize })
hash_put text f from to old hash is place e =
    let field : f ≡ record { number = 1; wire = f.wire; value = Place from to } = ap₂ (λ (n : ℕ) (v : Value). let x : Field = record { number = n; wire = f.wire; value = v } in x) is place in
    subst (λ (g : Field). GathersLink text (g ∷ []) old (record { hash = hash; name = old.name; tsize = old.tsize })) (sym field)
    (record { hash = ap (λ (t : List ℕ). Some t) e; name = refl; tsize = refl })

pub name_put : (text : List ℕ) (f : Field) (from to : ℕ) (old : Link) (name : List ℕ) → f.number ≡ 2 → f.value ≡ Place from to → name ≡ slice_range text from to
    → GathersLink text (f ∷ []) old (record { hash = old.hash; name = Some name; tsize = old.tsize })
name_put text f from to old name is place e =
    let field : f ≡ record { number = 2; wire = f.wire; value = Place from to } = ap₂ (λ (n : ℕ) (v : Value). let x : Field = record { number = n; wire = f.wire; value = v } in x) is place in
    subst (λ (g : Field). GathersLink text (g ∷ []) old (record { hash = old.hash; name = Some name; tsize = old.tsize })) (sym field)
    (record { hash = refl; name = ap (λ (t : List ℕ). Some t) e; tsize = refl })
