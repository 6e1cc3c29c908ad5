use Rattle.std.proofs.Common.{◌≡◌, ◌+◌, ◌∙◌, ℕ, suc, List, Bor, slice_index_or, ap, sym, subst, arith}
use Rattle.std.proofs.lemmas.List.{get_or_default}
use Rattle.lh_bucket.specs.declared.call.Call.TheVariants.{Insert}
use Rattle.lh_file.specs.Calls.Lent.{put_reply}
use Rattle.lh_store.specs.Rooms.{TellsRoom, bytes_of_record}
use Rattle.lh_store.specs.Sessions.{HasPut}
use Rattle.lh_store.proofs.session.Session.extend.Goals as goal

pub returns-in-Err-clause-some : goal.returns-in-Err-clause-some
returns-in-Err-clause-some g c = (c.loop-key.self, c.loop-key.invariant.puts, c.in-Err.ensures.err)

pub returns-in-Err-clause-done : goal.returns-in-Err-clause-done
returns-in-Err-clause-done g c = omega (arith, c.loop-key.invariant.place, c.loop-key-test.true)

pub returns-in-Err-clause-no_room : goal.returns-in-Err-clause-no_room
returns-in-Err-clause-no_room g c d =
    subst
    (λ (pair : Bor (List ℕ) × Bor (List ℕ)). TellsRoom g.Self.Session.room (bytes_of_record pair) c.in-Err.fault)
    (get_or_default c.args.records.now c.loop-key.key-index _ d c.loop-key-test.true
    ∙ ap (λ n. slice_index_or c.args.records.now n d) (sym c.loop-key.invariant.place)) c.in-Err.ensures.no_room

pub loop-key-preserved : goal.loop-key-preserved
loop-key-preserved g c =
    let i = c.loop-key.invariant in
    let made = λ (pair : Bor (List ℕ) × Bor (List ℕ)).
    g.Self.Session.made c.loop-key.self (Insert pair.0.now pair.1.now) (put_reply c.in-Ok.is_new) c.put.new.self
    in record {
      place = ap (λ n. n + 1) i.place;
      few = omega (arith, i.few, c.one_if-added.ensures.most);
      puts =
          let more : suc c.loop-key.done ≡ c.loop-key.done + 1 = omega arith in
          subst
          (λ n.
          HasPut g.Self.Session.made c.args.records.now c.args.self.now n
          (c.loop-key.added + c.one_if-added.result) c.put.new.self) more
          (record {
            last = c.loop-key.self;
            before = c.loop-key.added;
            first = i.puts;
            is_new = c.in-Ok.is_new;
            put =
                λ d.
                subst made
                (get_or_default c.args.records.now c.loop-key.key-index _ d c.loop-key-test.true
                ∙ ap (λ n. slice_index_or c.args.records.now n d) (sym i.place)) c.in-Ok.ensures.made;
            count = ap (λ n. c.loop-key.added + n) c.one_if-added.ensures.value;
          });
    }

pub returns-clause-all : goal.returns-clause-all
returns-clause-all g c =
    let i = c.loop-key.invariant in
    subst
    (λ n. HasPut g.Self.Session.made c.args.records.now c.args.self.now n c.loop-key.added c.loop-key.self)
    (omega (arith, i.place, c.loop-key-test.false, c.loop-key.auto.key-index-end)) i.puts
