use Rattle.std.proofs.Common.{arith, length, ◌≡◌}
use Rattle.std.proofs.Math.Path.{ap, ◌∙◌}
use Rattle.chunked_list.proofs.Counted.{base_below, begin_counting, blocks_counted, count_fits, counted_all, counted_more}
use Rattle.chunked_list.proofs.starts.Starts.recount.Goals as goal

pub note-requires-clause-inside : goal.note-requires-clause-inside
note-requires-clause-inside g c = let size = c.loop-chunk.invariant.1.long in let test = c.loop-chunk-test.true in omega arith

pub note-requires-clause-blocks : goal.note-requires-clause-blocks
note-requires-clause-blocks g c = c.loop-chunk.invariant.1.enough

pub note-requires-clause-base : goal.note-requires-clause-base
note-requires-clause-base g c = base_below (λ chunk. chunk.items) c.args.chunks.now c.loop-chunk.self-inside.blocks.items c.loop-chunk.self-inside.within.items c.loop-chunk.chunk c.loop-chunk.count c.loop-chunk.invariant.1

pub loop-chunk-init : goal.loop-chunk-init
loop-chunk-init g c = (c.requires.inside, begin_counting (λ chunk. chunk.items) c.args.chunks.now c.self.inside.blocks.items c.self.inside.within.items c.args.self.now c.args.from c.args.count c.self.view_is c.self.invariant c.requires.long c.requires.inside c.requires.count c.requires.counted)

pub loop-chunk-preserved : goal.loop-chunk-preserved
loop-chunk-preserved g c =
    let test = c.loop-chunk-test.true in let chunk = c.index-chunks-chunk.result in
    let size : c.len-count.result ≡ length chunk.items = (let len = c.len-count.ensures in let ok = chunk.ok in omega arith) in (
      omega arith,
      counted_more (λ chunk. chunk.items) c.args.chunks.now c.loop-chunk.self-inside.blocks.items c.loop-chunk.self-inside.within.items c.note.new.blocks.items c.note.new.within.items c.loop-chunk.chunk c.loop-chunk.count c.len-count.result chunk test
          (size ∙ ap (λ y. length y.items) c.index-chunks-chunk.is) c.loop-chunk.invariant.1 c.note.ensures,
    )

pub overflow_add-count : goal.overflow_add-count
overflow_add-count g c =
    let test = c.loop-chunk-test.true in let chunk = c.index-chunks-chunk.result in
    let size : c.len-count.result ≡ length chunk.items = (let len = c.len-count.ensures in let ok = chunk.ok in omega arith) in
    let fits = count_fits (λ chunk. chunk.items) c.args.chunks.now c.loop-chunk.self-inside.blocks.items c.loop-chunk.self-inside.within.items c.loop-chunk.chunk c.loop-chunk.count c.len-count.result chunk test
    (size ∙ ap (λ y. length y.items) c.index-chunks-chunk.is) c.loop-chunk.invariant.1 in
    let all = c.requires.fits in omega arith

pub invariant_of-self : goal.invariant_of-self
invariant_of-self g c = blocks_counted (λ chunk. chunk.items) c.args.chunks.now c.loop-chunk.self-inside.blocks.items c.loop-chunk.self-inside.within.items c.loop-chunk.chunk c.loop-chunk.count c.loop-chunk.invariant.1 c.loop-chunk-test.false c.requires.fits

pub returns : goal.returns
returns g c = counted_all (λ chunk. chunk.items) c.args.chunks.now c.loop-chunk.self-inside.blocks.items c.loop-chunk.self-inside.within.items c.loop-chunk.chunk c.loop-chunk.count c.loop-chunk.invariant.1 c.loop-chunk-test.false
