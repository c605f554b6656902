use Rattle.std.proofs.Common.{◌≡◌, ◌<◌, ◌++◌, [], ◌∙◌, List, Option, Some, length, slice_get, rules, ap, subst, sym}
use Rattle.std.specs.Prelude.{All, ◌&&◌}
use Rattle.std.specs.List.{remove}
use Rattle.std.specs.Option.{option_map_or}
use Rattle.xv_model.specs.declared.messages.Message.{Message}
use Rattle.xv_model.specs.declared.messages.Message.TheVariants as message
use Rattle.xv_model.specs.route.Flight.{escalation_of}
use Rattle.xv_model.specs.route.Taking.{is_undelivered}
use Rattle.router.specs.Messages.{IsMessage}
use Rattle.router.specs.Tables.{Kept, StandsFor}
use Rattle.router.proofs.Sent.{taken_in_range, taken_is, escalated_in_range, behind}
use Rattle.router.proofs.Taken.{taken_stands, going_on, may_of}
use Rattle.router.proofs.tables.Tables.end_present.Goals as goal
use Rattle.router.proofs.tables.Tables.end_present.Goals.{After-after_present-escalates}

-- the message that was taken is the one that lay there
taken : (c : After-after_present-escalates) (m : Message) → slice_get c.args.self.now.messages c.args.i ≡ Some m →
    let x = c.in-Some-Present in
    ◌≡◌ {A = Option Message} (Some (message.Present x.e x.flags x.field-0-2 x.field-0-3 x.esc x.esc_eisn x.origin)) (Some m)
taken c m found =
    let x = c.in-Some-Present in
    let inside : c.args.i < c.self.inside.messages.len = search rules in
    let there = subst (λ (t : Kept). slice_get t.messages c.args.i ≡ Some m) (sym c.self.view_is) found in
    taken_is c.self.inside.messages.items c.args.i c.remove.result m _ there (c.remove.ensures.succeeds m inside) (x.is ∙ ap Some x.field-0-is)

-- so its flags decide
decided : (c : After-after_present-escalates) (m : Message) → slice_get c.args.self.now.messages c.args.i ≡ Some m →
    c.after_present-escalates.result ≡ (is_undelivered c.args.presented && may_of (Some m))
decided c m found = c.after_present-escalates.ensures ∙ ap (λ (n : Option Message). is_undelivered c.args.presented && may_of n) (taken c m found)

pub invariant_of-self : goal.invariant_of-self
invariant_of-self c =
    let i = c.self.inside in
    let k = c.self.invariant in
    let x = c.in-Some-Present in
    let inside : c.args.i < i.messages.len = search rules in
    let l : c.args.i < length i.messages.items = search rules in
    let range = taken_in_range i.board i.messages.items c.args.i c.remove.result _ k.8 l (c.remove.ensures.succeeds _ inside) (x.is ∙ ap Some x.field-0-is) in (
      k.0,
      k.1,
      k.2,
      k.3,
      k.4,
      k.5,
      search rules,
      search rules,
      subst (λ (messages : List Message). All (IsMessage i.board) messages)
          (sym (behind c.push_back_reserved.new.self.items c.remove.new.self.items (remove i.messages.items c.args.i) _ c.push_back_reserved.ensures.items x.ensures.items))
          (escalated_in_range i.board i.messages.items c.args.i x.e _ _ x.esc x.esc_eisn x.origin x.flags k.8 range),
    )

pub returns-then-escalates-clause-escalates : goal.returns-then-escalates-clause-escalates
returns-then-escalates-clause-escalates c = λ e vp priority esc p origin flags found.
    decided (goal.at.returns-then-escalates-clause-escalates c).After-after_present-escalates (message.Present e flags vp priority esc p origin) found

pub returns-else-escalates-clause-escalates : goal.returns-else-escalates-clause-escalates
returns-else-escalates-clause-escalates c = λ e vp priority esc p origin flags found.
    decided (goal.at.returns-else-escalates-clause-escalates c).After-after_present-escalates (message.Present e flags vp priority esc p origin) found

pub returns-then-escalates-clause-stands : goal.returns-then-escalates-clause-stands
returns-then-escalates-clause-stands c = λ z h actor e vp priority esc p origin flags found before.
    let i = c.self.inside in
    let x = c.in-Some-Present in
    let m = message.Present e flags vp priority esc p origin in
    let rest = remove i.messages.items c.args.i in
    let st = subst (λ (t : Kept). StandsFor t z h) (sym c.self.view_is) before in
    let there = subst (λ (t : Kept). slice_get t.messages c.args.i ≡ Some m) (sym c.self.view_is) found in
    let same = taken (goal.at.returns-then-escalates-clause-stands c).After-after_present-escalates m found in
    taken_stands _ z h actor c.args.i vp priority c.args.presented c.after_present-escalates.result e vp priority esc p origin flags c.push_back_reserved.new.self.items st there
    (behind c.push_back_reserved.new.self.items c.remove.new.self.items rest _ c.push_back_reserved.ensures.items x.ensures.items
    ∙ ap (λ (n : Option Message). rest ++ option_map_or escalation_of n []) same ∙ ap (λ v. rest ++ going_on m v) (sym c.if-escalates.true))
