-- When a query of an audit is within the limits: its request is short, and its traversal gives and opens few enough.
use Rattle.std.proofs.Common.{All, Bool, List, [], arith, false, length, length-append, lit≤, subst, sym, ℕ, ◌++◌, ◌∷◌, ◌≡◌, ◌≤◌}
use Rattle.tg_audit.proofs.BlockSizes.{BlockLaws}
use Rattle.tg_audit.proofs.FileSizes.{IsAt}
use Rattle.tg_audit.proofs.LightFolders.{imported_at}
use Rattle.tg_audit.proofs.WithinCounts.{IsShallow, blocks_few, counted_few, depth_few, length_is, length_met, lines_met, line_size, name_size, names_met, of_places, once_few, one_entry, opened_all, rooms_are, sent_fewer, asked_fewer, sizes_few, total}
use Rattle.tg_audit.proofs.WithinFolders.{IsHeavy}
use Rattle.tg_audit.proofs.WithinNodes.{IsPlain, IsSmallBlock, cut_low, escaped_few, no_link, no_room, plain_each, plain_root}
use Rattle.tg_audit.proofs.WithinReplies.{IsPlainDigest, body_fits, car_head_fits, few_text, request_fits, room_of}
use Rattle.tg_audit.proofs.WithinTrees.{IsBoundTree, bound_tree, most_files}
use Rattle.tg_audit.proofs.WithinWeights.{traversal_given}
use Rattle.tg_audit.specs.Packing.{HoldsImported}
use Rattle.tg_audit.specs.Shards.{one_each}
use Rattle.tg_bytes.specs.Ascii.{line_feed, space}
use Rattle.tg_cid.specs.Computed.{cid_text}
use Rattle.tg_draws.specs.Draws.{IsDrawn}
use Rattle.tg_draws.specs.Trees.{IsTreeOf}
use Rattle.tg_draws.specs.declared.drawing.Drawn.{Drawn}
use Rattle.tg_heard.specs.Exchanges.{HasOneBlockEach, IsWithin, is_answer, own_reply}
use Rattle.tg_http.specs.declared.request.RequestHead.{RequestHead}
use Rattle.tg_model.specs.Answer.{answer, is_listed, node_text}
use Rattle.tg_model.specs.Counts.{counts, names_size}
use Rattle.tg_model.specs.Dag.{Dag, root_cid}
use Rattle.tg_model.specs.Ends.{EndsAlike}
use Rattle.tg_model.specs.LimitNumbers.{AreWithin, standard}
use Rattle.tg_model.specs.Lookup.{lookup_path}
use Rattle.tg_model.specs.PathWalk.{path_walk, terminal}
use Rattle.tg_model.specs.Queries.{QueryParts}
use Rattle.tg_model.specs.ShowsTree.{Shows}
use Rattle.tg_model.specs.Sound.{IsSound, top}
use Rattle.tg_model.specs.Texts.{escaped}
use Rattle.tg_model.specs.Traversal.{asked, block_list, opened_list, traversal}
use Rattle.tg_model.specs.declared.queries.Form.{Form}
use Rattle.tg_model.specs.declared.queries.Form.TheVariants as forms
use Rattle.tg_model_laws.specs.Depths.{CutsAtDepths}
use Rattle.tg_model_laws.specs.FileSizes.{TotalIsLength}
use Rattle.tg_model_laws.specs.OpenedSections.{list_opened}
use Rattle.tg_query.specs.Requests.{accept_text, car_with_dups, params_text, path_text}
use Rattle.tg_reply.specs.Replies.{asks_close, framed_body, reply_bytes, unless_head}
use Rattle.tg_reply.specs.CarBytes.{car_parts}
use Rattle.tg_reply.specs.Heads.{car_head}
use Rattle.tg_tree.specs.declared.tree.Tree.{Tree}

-- the laws that the crates below state
pub record WithinLaws : Type 0 where
  pub blocks : BlockLaws
  pub totals : TotalIsLength
  pub cut : CutsAtDepths
  pub alike : (d : Dag) (path : List (List ℕ)) → IsSound d → EndsAlike (path_walk path d).end (lookup_path path d)
  pub text : (q : QueryParts) (d t : Dag) → IsSound d → (path_walk q.path d).end ≡ terminal t → is_listed q.scope t ≡ false
      → (traversal q d).text ≡ node_text q.scope q.span t

-- ---- what entries weigh

pub one_heavy : IsHeavy one_entry 1
one_heavy name cid short digest = omega arith

name_heavy : IsHeavy name_size 7
name_heavy name cid short digest = short

line_heavy : IsHeavy line_size 376
line_heavy name cid short digest =
    let text = few_text cid digest in
    let name_few = escaped_few name in
    let both = length-append (cid_text cid) (space ∷ (escaped name ++ line_feed ∷ [])) in
    let rest = length-append (escaped name) (line_feed ∷ []) in
    omega (arith, text, name_few, both, rest, short)

-- what a query says of its request, the text that it gives, and what it opens where each block is sent once
pub record IsFewOf (q : QueryParts) (d : Dag) : Type 0 where
  pub root : q.root ≡ root_cid d
  pub car : q.form ≡ forms.Car
  pub path : length (path_text q.path) ≤ 100
  pub params : length (params_text q.form q) ≤ 100
  pub accept : length (accept_text q.form q) ≤ 100
  pub dups : length (car_with_dups q.dups) ≤ 100
  pub text : length (traversal q d).text ≤ 570000000000
  pub seen : q.dups ≡ false → (total one_each (opened_list q d) ≤ 1048576) × (total room_of (opened_list q d) ≤ 1073741824)

module _ (laws : WithinLaws) (seed files : ℕ) (drawn : Drawn) (tree : Tree) (content : List ℕ) (d : Dag) (few : files ≤ most_files) (drawn_is : IsDrawn seed files drawn)
    (is : IsTreeOf drawn tree) (holds : HoldsImported tree d content) (one : HasOneBlockEach d) where
  pub sound : IsSound d
  sound = holds.imported.sound

  pub stands : IsAt top d
  stands = imported_at tree [] d holds.imported

  pub shown : Shows d tree
  shown = holds.imported.shows

  pub ones : IsBoundTree one_entry 1 d
  ones = bound_tree laws.blocks laws.totals one_entry 1 one_heavy seed files drawn tree few drawn_is is d stands shown

  names : IsBoundTree name_size 7 d
  names = bound_tree laws.blocks laws.totals name_size 7 name_heavy seed files drawn tree few drawn_is is d stands shown

  lines : IsBoundTree line_size 376 d
  lines = bound_tree laws.blocks laws.totals line_size 376 line_heavy seed files drawn tree few drawn_is is d stands shown

  sent_plain : (q : QueryParts) → All IsPlain (block_list q d)
  sent_plain q = list_opened IsPlain q d (opened_all IsPlain d (plain_each top d sound.whole sound.checked holds.imported.plain))

  pub sent_small : (q : QueryParts) → All IsSmallBlock (block_list q d)
  sent_small q = list_opened IsSmallBlock q d (opened_all IsSmallBlock d ones.small)

  pub shallow : (q : QueryParts) → All (IsShallow 17) (traversal q d).places
  shallow q = subst (λ (x : Dag). All (IsShallow 17) (traversal q x).places) (cut_low 17 1 17 d (lit≤ tt) ones.low) (laws.cut q d 17 sound).within

  depth_is : (q : QueryParts) → (counts q d).depth ≤ 17
  depth_is q = depth_few 17 (traversal q d).places (shallow q)

  opened_rooms : (q : QueryParts) → total room_of (opened_list q d) ≤ 290000000000
  opened_rooms q =
      let all = traversal_given room_of no_link q d in
      let same = of_places room_of no_link (traversal q d).places in
      let rooms_few = ones.rooms in
      omega (arith, all, same, rooms_few)

  -- ---- a query

  module _ (q : QueryParts) (of : IsFewOf q d) where
    cid_few : length (cid_text q.root) ≤ 353
    cid_few = few_text q.root (subst IsPlainDigest (sym of.root) (plain_root top d stands))

    counts_few : AreWithin standard (counts q d)
    counts_few =
        let t = traversal q d in
        let depth = depth_is q in
        let met_one = traversal_given no_room one_entry q d in
        let met_name = traversal_given no_room name_size q d in
        let met_line = traversal_given no_room line_size q d in
        let all_one = ones.met in
        let all_name = names.met in
        let all_line = lines.met in
        let entries = counted_few one_entry length length_met [] t.met in
        let names_few = counted_few name_size names_size names_met [] t.met in
        let lines_few = lines_met t.met in
        let text = of.text in
        record {
          block = blocks_few (block_list q d) (sent_small q);
          depth = omega (arith, depth);
          entries = omega (arith, entries, met_one, all_one);
          names = omega (arith, names_few, met_name, all_name);
          received = lit≤ tt;
          output = omega (arith, text, lines_few, met_line, all_line);
          seen_blocks = once_few q.dups _ 1048576 (λ e.
              let two = of.seen e in
              let most = two.0 in
              let sent_is = sent_fewer one_each q (opened_list q d) in
              let same = length_is (block_list q d) in
              omega (arith, most, sent_is, same));
          seen_bytes = once_few q.dups _ 1073741824 (λ e.
              let two = of.seen e in
              let most = two.1 in
              let sent_is = sent_fewer room_of q (opened_list q d) in
              let sizes = sizes_few (block_list q d) in
              omega (arith, most, sent_is, sizes));
          reused = once_few q.dups _ 16777216 (λ e.
              let two = of.seen e in
              let most = two.0 in
              let asked_is = asked_fewer one_each q (opened_list q d) in
              let same = length_is (asked q (opened_list q d)) in
              omega (arith, most, asked_is, same));
        }

    abbrev found : Bool
    found = is_answer (answer q d)

    head_few : (head : RequestHead) → length (car_head found q head.minor (asks_close head)) ≤ 16384
    head_few head = car_head_fits found q head.minor (asks_close head) cid_few of.path of.dups

    reply_few : (head : RequestHead) → length (reply_bytes (own_reply head q d forms.Car)) ≤ 1099511627776
    reply_few head =
        let first = head_few head in
        let body = unless_head head (framed_body head.minor false (car_parts q.root (block_list q d))) in
        let rest = body_fits head q.root (block_list q d) (subst IsPlainDigest (sym of.root) (plain_root top d stands)) (sent_plain q) in
        let same = rooms_are (block_list q d) in
        let sent_is = sent_fewer room_of q (opened_list q d) in
        let opened_is = opened_rooms q in
        let both = length-append (car_head found q head.minor (asks_close head)) body in
        omega (arith, first, rest, same, sent_is, opened_is, both)

    pub within_of : IsWithin q standard d
    within_of = record {
      one_block = one;
      counts_are = counts_few;
      shallow = let depth = depth_is q in omega (arith, depth);
      request = λ addr addr_is. request_fits q addr cid_few of.path of.params of.accept addr_is.few;
      head = λ head own. subst (λ (f : Form). length (own_reply head q d f).head ≤ 16384) (sym of.car) (head_few head);
      received = λ head own. subst (λ (f : Form). length (reply_bytes (own_reply head q d f)) ≤ 1099511627776) (sym of.car) (reply_few head);
    }
