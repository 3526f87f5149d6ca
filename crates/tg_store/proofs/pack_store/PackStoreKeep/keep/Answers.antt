use Rattle.std.proofs.Common.{◌≡◌, ◌≤◌, ◌∷◌, [], length, Some, None, ap, sym, subst, ◌∙◌, refl, arith}
use Rattle.std.specs.Map.{keys_of, lookup}
use Rattle.std.proofs.lemmas.Result.{MatchResult-weaker}
use Rattle.tg_cid.specs.Limits.{max_digest_len}
use Rattle.tg_cid.specs.declared.cid.HashKind.TheVariants.{Identity}
use Rattle.tg_files.specs.Packs.{pack_step}
use Rattle.tg_model.specs.Dag.{Section}
use Rattle.tg_model.specs.Stores.{AreKeptAs}
use Rattle.tg_store.specs.declared.key.Key.{Key}
use Rattle.tg_store.specs.EntryLaws.{none_new, none_own}
use Rattle.tg_store.specs.Keys.{key_of, same_key}
use Rattle.tg_store.specs.Packs.{PackStoreState, IsIndexedIn, HasKept, stored_in}
use Rattle.tg_store.specs.PackWrites.{AddsSection}
use Rattle.tg_store.proofs.Keeping.{added_fields, added_kept, either_way, kept_same, left_fields, stored_again, stored_own_block}
use Rattle.tg_store.proofs.MemKeeping.{has_identity, has_sha256, is_none_found, is_some_found, key_is}
use Rattle.tg_store.proofs.pack_store.PackStoreKeep.keep.Goals as goal

pub returns-then-contains_key-clause-kept : goal.returns-then-contains_key-clause-kept
returns-then-contains_key-clause-kept g c =
    let key : key_of c.args.cid ≡ c.in-Some.key = key_is c.args.cid c.in-Some.key (sym c.of.ensures ∙ c.in-Some.is) in
    let there = is_some_found (lookup (same_key c.in-Some.key) c.self.inside.places.entries) (sym c.contains_key.ensures ∙ c.if-contains_key.true) in
    let found : lookup (same_key (key_of c.args.cid)) c.args.self.now.places ≡ Some there.0 =
    ap (λ (k : Key). lookup (same_key k) c.args.self.now.places) key
    ∙ (ap (λ (s : PackStoreState g.row.P.Denot). lookup (same_key c.in-Some.key) s.places) (sym c.self.view_is) ∙ there.1) in
    let indexed : IsIndexedIn (g.P.Pack.pack.content c.args.self.now.pack) c.args.self.now.fresh c.args.self.now.places c.args.self.now.end =
    subst (λ (s : PackStoreState g.row.P.Denot). IsIndexedIn (g.P.Pack.pack.content s.pack) s.fresh s.places s.end) c.self.view_is c.self.invariant.1 in
    record {
      moved = kept_same g.P.Pack.pack g.met.P.Pack.rests g.met.P.Pack.joins c.args.self.now (record { cid = c.args.cid; block = c.args.block.now })
          (none_new c.args.self.now.places (record { cid = c.args.cid; block = c.args.block.now }) there.0 found);
      stored = stored_again (g.P.Pack.pack.content c.args.self.now.pack) c.args.self.now.fresh c.args.self.now.places c.args.self.now.end c.args.cid c.args.block.now there.0 (has_sha256 c.args.cid c.in-Some.key (sym c.of.ensures ∙ c.in-Some.is)) found indexed;
    }

pub invariant_of-self : goal.invariant_of-self
invariant_of-self g c =
    let key : key_of c.args.cid ≡ c.in-Some.key = key_is c.args.cid c.in-Some.key (sym c.of.ensures ∙ c.in-Some.is) in
    let none : lookup (same_key (key_of c.args.cid)) c.self.inside.places.entries ≡ None =
    ap (λ (k : Key). lookup (same_key k) c.self.inside.places.entries) key
    ∙ is_none_found (lookup (same_key c.in-Some.key) c.self.inside.places.entries) (sym c.contains_key.ensures ∙ c.if-contains_key.false) in
    let before : PackStoreState g.row.P.Denot = record { pack = c.self.inside.pack; fresh = c.self.inside.fresh; places = c.self.inside.places.entries; end = c.self.inside.end } in
    let after : PackStoreState g.row.P.Denot = record { pack = c.add_section.new.pack; fresh = c.self.inside.fresh; places = c.add_section.new.places.entries; end = c.add_section.new.end } in
    let section : Section = record { cid = c.args.cid; block = c.args.block.now } in
    either_way c.add_section.result _ _ _ c.add_section.ensures
    (λ x a. added_fields g.P.Pack.pack before after c.args.cid c.args.block.now (has_sha256 c.args.cid c.in-Some.key (sym c.of.ensures ∙ c.in-Some.is)) c.requires.named c.requires.small none c.self.invariant.1 c.self.invariant.0 refl
    (subst (λ (k : Key). AddsSection (pack_step g.P.Pack.pack before.pack after.pack) before.places after.places before.end after.end k section) (sym key) a))
    (λ fault left. left_fields g.P.Pack.pack before after c.args.cid c.args.block.now (has_sha256 c.args.cid c.in-Some.key (sym c.of.ensures ∙ c.in-Some.is)) c.requires.named c.requires.small none c.self.invariant.1 c.self.invariant.0 refl fault left)

pub returns-clause-kept : goal.returns-clause-kept
returns-clause-kept g c =
    let key : key_of c.args.cid ≡ c.in-Some.key = key_is c.args.cid c.in-Some.key (sym c.of.ensures ∙ c.in-Some.is) in
    let none : lookup (same_key (key_of c.args.cid)) c.self.inside.places.entries ≡ None =
    ap (λ (k : Key). lookup (same_key k) c.self.inside.places.entries) key
    ∙ is_none_found (lookup (same_key c.in-Some.key) c.self.inside.places.entries) (sym c.contains_key.ensures ∙ c.if-contains_key.false) in
    let before : PackStoreState g.row.P.Denot = record { pack = c.self.inside.pack; fresh = c.self.inside.fresh; places = c.self.inside.places.entries; end = c.self.inside.end } in
    let after : PackStoreState g.row.P.Denot = record { pack = c.add_section.new.pack; fresh = c.self.inside.fresh; places = c.add_section.new.places.entries; end = c.add_section.new.end } in
    let section : Section = record { cid = c.args.cid; block = c.args.block.now } in
    MatchResult-weaker c.add_section.result c.add_section.ensures
    (λ x a. let both = added_kept g.P.Pack.pack before after c.args.cid c.args.block.now (has_sha256 c.args.cid c.in-Some.key (sym c.of.ensures ∙ c.in-Some.is)) c.requires.named c.requires.small none c.self.invariant.1 c.self.invariant.0 refl
    (subst (λ (k : Key). AddsSection (pack_step g.P.Pack.pack before.pack after.pack) before.places after.places before.end after.end k section) (sym key) a) in
    record {
      moved = subst (λ (s : PackStoreState g.row.P.Denot). HasKept g.P.Pack.pack s after (section ∷ [])) c.self.view_is both.0;
      stored = subst (λ (s : PackStoreState g.row.P.Denot). AreKeptAs (stored_in (g.P.Pack.pack.content s.pack) s.places) (stored_in (g.P.Pack.pack.content after.pack) after.places) (section ∷ []))
          c.self.view_is both.1;
    }) (λ fault left. tt)

pub returns-in_default-clause-kept : goal.returns-in_default-clause-kept
returns-in_default-clause-kept g c =
    let identity : c.args.cid.hash ≡ Identity = has_identity c.args.cid (sym c.of.ensures ∙ c.in_default.is) in
    let most : length c.args.cid.digest ≤ max_digest_len = omega arith in
    record {
      moved = kept_same g.P.Pack.pack g.met.P.Pack.rests g.met.P.Pack.joins c.args.self.now (record { cid = c.args.cid; block = c.args.block.now })
          (none_own (keys_of c.args.self.now.places) (record { cid = c.args.cid; block = c.args.block.now }) identity);
      stored = stored_own_block (g.P.Pack.pack.content c.args.self.now.pack) c.args.self.now.places c.args.cid c.args.block.now identity c.requires.named most;
    }
