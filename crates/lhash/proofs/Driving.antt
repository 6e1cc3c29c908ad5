-- From the calls of a script to the totals of a run in threads
use Rattle.std.proofs.Common.{◌≡◌, ◌∙◌, ℕ, ◌+◌, ◌%◌, ◌^◌, true, List, All, Option, None, Some, IfSome, length}
use Rattle.std.proofs.Common.{take, refl, sym, subst, inl, inr, arith}
use Rattle.std.specs.Prelude.{Ok, Err}
use Rattle.std.specs.Io.KnownBytes.{Appends}
use Rattle.std.proofs.KnownBytes.{Keeps-refl}
use Rattle.std.proofs.lemmas.List.{length-map}
use Rattle.std.proofs.lemmas.List.Elements.{All-contains, All-weaker}
use Rattle.std.proofs.lemmas.List.Sorted.{length_permutation}
use Rattle.lh_addr.specs.Settings.{Settings}
use Rattle.lh_bucket.specs.Listing.{Lists}
use Rattle.lh_bucket.specs.declared.call.Call.{Call as CallOf}
use Rattle.lh_settling.specs.Acts.{calls_of, replies_of, IsInOrder, acts_before}
use Rattle.lh_settling.specs.ClosedFile.{ClosedFile}
use Rattle.lh_settling.specs.Settled.{IsStamped, IsSettled}
use Rattle.lh_settling.specs.declared.act.ActLine.{ActLine}
use Rattle.lh_settling.specs.declared.settle_fault.SettleFault.TheVariants as settle
use Rattle.lh_file.specs.Closing.{NoneOutside, HasHistory}
use Rattle.lh_file.specs.FileState.{FileState}
use Rattle.lh_words.specs.History.Log.{lines_of}
use Rattle.lh_file.specs.Snapshots.Settled.{BeforeLaw, IsSettledFirst, SnapshotLaw}
use Rattle.lh_file.specs.Words.HandState.{HandState}
use Rattle.lh_script.specs.Commands.{command}
use Rattle.lh_script.specs.declared.notation.Notation.{Notation}
use Rattle.lh_subcommands.specs.Devices.{TakesBeginning}
use Rattle.lhash.specs.Driving.{IsSettledWith, EndsThreaded, IsDrivenWith, IsDriveFault, IsDriveFaultWith, IsFaultOfOne}
use Rattle.lhash.specs.Driving.{IsSettledBefore, empty_file, ended_by}
use Rattle.lh_subcommands.specs.Run.{ReadsScript}
use Rattle.lh_script.specs.Scripts.{script}
use Rattle.lhash.specs.declared.drive.DriveFault.{DriveFault}
use Rattle.lhash.specs.declared.drive.DriveFault.TheVariants.{Settle, Call, Thread, Memory}
use Rattle.lhash.specs.declared.driven.Driven.{Driven}
use Rattle.lhash.specs.Crew.{HasTakenOne}
use Rattle.lh_subcommands.specs.declared.status.DeviceFault.TheVariants.{Read, Write}
use Rattle.lh_subcommands.specs.declared.status.InputFault.TheVariants.{Script, Image, Load, Unwritten}
use Rattle.lh_subcommands.specs.declared.status.Status.{Status}
use Rattle.lh_subcommands.specs.declared.status.Status.TheVariants.{Done, Input, Words, Device, KeyAbsent, NotSettled}
use Rattle.lh_subcommands.specs.declared.status.Status.TheVariants.{Memory as NoMemory}

-- the script was read
abbrev pub IsScriptOf : Notation → Option (List ℕ) → List CallOf → Type 0
IsScriptOf n left calls = IfSome left (λ input. script (command n) input ≡ Ok calls)

-- a run in threads, whatever its totals and its faults are
module _ (n : Notation) (Totals : List CallOf → List ℕ → Type 0) (Fault : DriveFault → Type 0) where
  unread : (status : Status) (input : List ℕ) (a : Option (List ℕ)) →
      ReadsScript {A = CallOf} (Err status) (script (command n) input) →
      EndsThreaded n Totals Fault input status a a
  unfolding EndsThreaded
  unread Done input a h = absurd h
  unread (Input (Script fault)) input a h = (h, Keeps-refl a)
  unread (Input (Image fault)) input a h = absurd h
  unread (Input (Unwritten fault)) input a h = absurd h
  unread (Input (Load fault)) input a h = absurd h
  unread (Words text) input a h = absurd h
  unread (Device Read) input a h = Keeps-refl a
  unread (Device Write) input a h = absurd h
  unread NoMemory input a h = Keeps-refl a
  unread (NotSettled reason) input a h = absurd h
  unread KeyAbsent input a h = absurd h

  -- one that read no script ends without a write
  pub unrun : (status : Status) (left a : Option (List ℕ)) →
      IfSome left (λ input. ReadsScript {A = CallOf} (Err status) (script (command n) input)) →
      IfSome left (λ input. EndsThreaded n Totals Fault input status a a)
  unrun status None a h = tt
  unrun status (Some input) a h = unread status input a h

  -- one that is out of memory ends without a write
  pub undriven_memory : (left a : Option (List ℕ)) →
      IfSome left (λ input. EndsThreaded n Totals Fault input NoMemory a a)
  unfolding EndsThreaded
  undriven_memory None a = tt
  undriven_memory (Some input) a = Keeps-refl a

  ends_so : (input : List ℕ) (calls : List CallOf) (fault : DriveFault) (a : Option (List ℕ)) →
      script (command n) input ≡ Ok calls → Fault fault →
      EndsThreaded n Totals Fault input (ended_by fault) a a
  unfolding EndsThreaded
  ends_so input calls (Settle settle.SplitUnderWay) a given h =
      (calls, given, (Settle settle.SplitUnderWay, h, refl), Keeps-refl a)
  ends_so input calls (Settle (settle.MissingStamp stamp)) a given h =
      (calls, given, (Settle (settle.MissingStamp stamp), h, refl), Keeps-refl a)
  ends_so input calls (Settle (settle.Reply stamp was due)) a given h =
      (calls, given, (Settle (settle.Reply stamp was due), h, refl), Keeps-refl a)
  ends_so input calls (Settle (settle.Content key)) a given h =
      (calls, given, (Settle (settle.Content key), h, refl), Keeps-refl a)
  ends_so input calls (Settle (settle.Placed bucket key)) a given h =
      (calls, given, (Settle (settle.Placed bucket key), h, refl), Keeps-refl a)
  ends_so input calls (Settle settle.Memory) a given h = Keeps-refl a
  ends_so input calls (Call fault) a given h = (calls, given, (Call fault, h, refl), Keeps-refl a)
  ends_so input calls Thread a given h = Keeps-refl a
  ends_so input calls Memory a given h = Keeps-refl a

  -- one that has no totals ends by its fault, without a write
  pub undriven_so : (calls : List CallOf) (fault : DriveFault) (status : Status) (left a : Option (List ℕ)) →
      IsScriptOf n left calls → Fault fault → status ≡ ended_by fault →
      IfSome left (λ input. EndsThreaded n Totals Fault input status a a)
  undriven_so calls fault status None a given h is = tt
  undriven_so calls fault status (Some input) a given h is =
      subst (λ (s : Status). EndsThreaded n Totals Fault input s a a) (sym is) (ends_so input calls fault a given h)

  -- the totals were written
  pub totals_told : (calls : List CallOf) (text : List ℕ) (left before now : Option (List ℕ)) →
      IsScriptOf n left calls →
      Totals calls text → Appends before now text →
      IfSome left (λ input. EndsThreaded n Totals Fault input Done before now)
  unfolding EndsThreaded
  totals_told calls text None before now given totals h = tt
  totals_told calls text (Some input) before now given totals h = (calls, text, given, totals, h)

  -- a beginning of them was written
  pub totals_begun : (calls : List CallOf) (text : List ℕ) (left before now : Option (List ℕ)) →
      IsScriptOf n left calls →
      Totals calls text → TakesBeginning before now text →
      IfSome left (λ input. EndsThreaded n Totals Fault input (Device Write) before now)
  unfolding EndsThreaded
  totals_begun calls text None before now given totals h = tt
  totals_begun calls text (Some input) before now given totals h = (calls, text, given, totals, h)

-- a history has a reply for each call of its acts
pub replies_made : (acts history : List ActLine) → IsInOrder acts history →
    length (replies_of history) ≡ length (calls_of acts)
replies_made acts history order =
    length-map history (λ act. act.reply) ∙ length_permutation acts history order.same
    ∙ sym (length-map acts (λ act. act.call))

-- without snapshots there is no fault of one
pub none_taken : (settings : Settings) (fault : DriveFault) → IsDriveFaultWith settings 0 fault →
    IsDriveFault settings fault
none_taken settings fault (inl h) = h
none_taken settings fault (inr h) = absurd (omega (arith, h.0))

-- totals of as many calls and snapshots
pub driven_as : (s t : Settings) (calls other : List CallOf) (n m : ℕ) (d : Driven) → s ≡ t →
    length calls ≡ length other → n ≡ m →
    IsDrivenWith s calls n d → IsDrivenWith t other m d
driven_as s t calls other n m d is same count h = subst (λ (x : Settings). IsDrivenWith x other m d) is (record {
  driven = record {
    closed = h.driven.closed;
    acts = h.driven.acts;
    history = h.driven.history;
    config = h.driven.config;
    settled = h.driven.settled;
    counts = h.driven.counts;
    made = h.driven.made ∙ same;
    records = h.driven.records;
  };
  taken = h.taken;
  count = h.count ∙ count;
  configs = h.configs;
  each = h.each;
})

-- the history of the acts before each snapshot is the first part of that of all
pub first_of : BeforeLaw →
    (settings : Settings) (closed : ClosedFile) (acts history : List ActLine) (taken : List ClosedFile) →
    IsStamped closed acts history →
    All (IsSettledBefore settings acts) taken →
    All (λ snapshot. IsSettledFirst (empty_file settings) snapshot acts history) taken
first_of law settings closed acts history taken is each =
    All-weaker (IsSettledBefore settings acts) (λ snapshot. IsSettledFirst (empty_file settings) snapshot acts history)
    (λ snapshot h.
    subst (IsSettled (empty_file settings) snapshot (acts_before snapshot.stamps acts))
    (law snapshot closed acts h.1.0 history h.1.1.stamped is) h.1.1)
    taken each

-- none comes where the closed file was gathered
pub snapshot_fault : (settings : Settings) (closed : ClosedFile) (acts history : List ActLine) (taken : List ClosedFile)
    (fault : DriveFault) → closed.config ≡ settings →
    IsSettled (empty_file settings) closed acts history →
    All (λ (snapshot : ClosedFile). snapshot.config ≡ settings) taken →
    (closed.gathered ≡ true → closed.root % 2 ≡ 0 → IsSettledWith (empty_file settings) closed acts taken) →
    IsFaultOfOne settings acts taken fault → IsDriveFaultWith settings (length taken) fault
snapshot_fault settings closed acts history taken (Settle fault) is settled configs known
    (snapshot, there, due, ne, un) =
    let some = there.1 in
    inr (
      omega arith,
      (
        closed,
        snapshot,
        acts,
        is,
        All-contains (λ (s : ClosedFile). s.config ≡ settings) taken snapshot configs there,
        (history, settled),
        due,
        ne,
        λ all.
            let k = known all settled.stamped.whole in
            un (
              take snapshot.stamps k.0,
              All-contains (λ (s : ClosedFile). IsSettledFirst (empty_file settings) s acts k.0) taken snapshot
                  k.2 there,
            ),
      ),
    )
snapshot_fault settings closed acts history taken (Call fault) is settled configs known h = absurd h
snapshot_fault settings closed acts history taken Thread is settled configs known h = absurd h
snapshot_fault settings closed acts history taken Memory is settled configs known h = inl tt

-- where the file has its history and all calls are at home, all of its snapshots are settled
pub all_settled : SnapshotLaw →
    (file : FileState) (opening : Lists) (closed : ClosedFile) (acts : List ActLine) (hand : HandState)
    (taken : List ClosedFile) → file.listing ≡ opening →
    HasHistory file.listing closed acts hand → hand.view.left + length hand.acts ≡ 2 ^ 63 → NoneOutside hand.entries →
    All (HasTakenOne file hand) taken → IsSettledWith opening closed acts taken
all_settled law file opening closed acts hand taken from held full none each =
    let own = (held.2 full none).0 in
    subst (λ (l : Lists). IsSettledWith l closed acts taken) from (
      lines_of held.0,
      own,
      All-weaker (HasTakenOne file hand) (λ (s : ClosedFile). IsSettledFirst file.listing s acts (lines_of held.0))
          (λ s t.
          law file.listing s closed t.entries t.logs t.log hand acts (lines_of held.0) t.whole t.is t.told held
          full none own) taken each,
    )
