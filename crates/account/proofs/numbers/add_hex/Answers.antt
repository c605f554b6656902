use Rattle.std.proofs.Common.{◌*◌, ◌/◌, ◌^◌, arith}
use Rattle.account.proofs.Digits.{hex_first, hex_more, hex_all}
use Rattle.account.proofs.numbers.add_hex.Goals as goal

pub loop-behind-init : goal.loop-behind-init
loop-behind-init g c =
    let places = c.places_behind-behind in
    record {
      few = places.ensures.few;
      some = places.ensures.some;
      len = omega arith;
      items = hex_first (c.args.n / 2 ^ (4 * places.result)) c.glyph.result c.args.text.now.items c.add.new.text.items c.push.new.self.items places.ensures.first c.glyph.ensures c.add.ensures.items c.push.ensures.items;
    }

pub loop-behind-preserved : goal.loop-behind-preserved
loop-behind-preserved g c =
    let i = c.loop-behind.invariant in
    let more = hex_more c.args.n c.loop-behind.behind c.glyph-in-loop-behind.result c.args.text.now.items c.loop-behind.text.items c.push-in-loop-behind.new.self.items (omega arith) c.loop-behind-test.true (i.some c.loop-behind-test.true) c.glyph-in-loop-behind.ensures i.items c.push-in-loop-behind.ensures.items in
    record { few = omega (arith, i.few); some = λ left. more.1; len = omega (arith, i.len, c.loop-behind-test.true, c.push-in-loop-behind.ensures.len); items = more.0 }

pub returns-clause-items : goal.returns-clause-items
returns-clause-items g c = hex_all c.args.n c.loop-behind.behind c.args.text.now.items _ (omega arith) c.loop-behind.invariant.items
