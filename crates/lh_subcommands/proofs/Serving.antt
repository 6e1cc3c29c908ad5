-- A client that is told what it is due.
use Rattle.std.proofs.Common.{◌≡◌, inl, inr, ℕ, Bool, List, [], ◌∷◌, ◌++◌, Option, None, Some, IfSome, length, refl}
use Rattle.std.proofs.Common.{sym, ap}
use Rattle.std.proofs.Common.{subst, ◌∙◌, append_assoc, append-nil, arith}
use Rattle.std.specs.Prelude.{Result, Ok, Err}
use Rattle.std.specs.Io.KnownBytes.{Appends, Consumes, IsAtEnd}
use Rattle.std.proofs.KnownBytes.{Appends-trans, Consumes-trans, Keeps-refl}
use Rattle.lh_image.specs.Reading.{IsDueFault, following, leading, reading_of}
use Rattle.lh_image.specs.declared.fault.ImageFault.{ImageFault}
use Rattle.lh_script.specs.declared.notation.Notation.{Notation}
use Rattle.lh_image.specs.declared.fault.ImageFault.TheVariants.{ReadFault, Memory as MemoryToRead}
use Rattle.lh_bucket.specs.Listing.{Lists}
use Rattle.lh_serving.specs.Answers.{file_of}
use Rattle.lh_serving.specs.Conversations.{Beginning, ConversationSeen, HasToldAll, IsAnswered, IsAt, beginning}
use Rattle.lh_serving.specs.Conversations.{pending}
use Rattle.lh_serving.specs.Texts.{image_text}
use Rattle.lh_subcommands.specs.Devices.{TakesBeginning}
use Rattle.lh_subcommands.specs.Images.{refused_as}
use Rattle.lh_subcommands.specs.Run.{Ends}
use Rattle.lh_subcommands.specs.Serve.{EndsAtFault, EndsGoingOn, EndsServing, EndsServingFrom, EndsServingOf}
use Rattle.lh_subcommands.specs.Serve.{IsCutShort, IsTelling, IsUnopened, TellsAnswers}
use Rattle.lh_subcommands.specs.declared.status.DeviceFault.{DeviceFault}
use Rattle.lh_subcommands.specs.declared.status.DeviceFault.TheVariants.{Read, Write}
use Rattle.lh_subcommands.specs.declared.status.InputFault.{InputFault}
use Rattle.lh_subcommands.specs.declared.status.InputFault.TheVariants.{Image}
use Rattle.lh_subcommands.specs.declared.status.Status.{Status}
use Rattle.lh_subcommands.specs.declared.status.Status.TheVariants.{Done, Device}

-- the input's fault of an image's
abbrev image_of : Result Lists ImageFault → Result (List ℕ) InputFault
image_of (Ok l) = Ok []
image_of (Err fault) = Err (Image fault)

-- nothing waits
quiet : (t : ConversationSeen) → HasToldAll t → pending t ≡ []
quiet t h = ap (λ w. w ++ image_text t.image) h.waiting ∙ ap image_text h.image

-- with what waits, a conversation has the answers to what was heard
pub due : (s : Beginning) (t : ConversationSeen) (heard answers : List ℕ) → IsAt s t heard answers →
    IsAnswered s heard (answers ++ pending t)
due s t heard answers h =
    record { turns = h.turns; rest = h.rest; each = h.each; whole = h.whole; incomplete = h.incomplete; same = h.same }

-- what waits was written
pub telling_now : (s : Beginning) (t u : ConversationSeen) (before now after : Option (List ℕ)) (heard : List ℕ) →
    IsTelling s t before now heard →
    ((answers : List ℕ) → IsAt s t heard answers → IsAt s u heard (answers ++ pending t)) →
    Appends now after (pending t) → IsTelling s u before after heard
telling_now s t u before now after heard h f k = record {
  answers = h.answers ++ pending t;
  held = f h.answers h.held;
  appended = Appends-trans before now after h.answers (pending t) h.appended k;
}

-- all that waits is told
pub told_by_now : (s : Beginning) (t : ConversationSeen) (before now : Option (List ℕ)) (heard : List ℕ) →
    IsTelling s t before now heard → HasToldAll t → TellsAnswers s before now heard
told_by_now s t before now heard h e = record {
  answers = h.answers;
  answered =
      subst (IsAnswered s heard) (ap (λ w. h.answers ++ w) (quiet t e) ∙ append-nil h.answers)
      (due s t heard h.answers h.held);
  appended = h.appended;
}

-- a write of what waits failed
pub cut_within : (s : Beginning) (t : ConversationSeen) (before now after : Option (List ℕ)) (heard : List ℕ) →
    IsTelling s t before now heard → TakesBeginning now after (pending t) → IsCutShort s before after heard
cut_within s t before now after heard h k = record {
  served = heard;
  left = [];
  split = sym (append-nil heard);
  answers = h.answers ++ pending t;
  answered = due s t heard h.answers h.held;
  taken = record {
    taken = h.answers ++ k.taken;
    left = k.left;
    appended = Appends-trans before now after h.answers k.taken h.appended k.appended;
    whole = append_assoc h.answers k.taken k.left ∙ ap (λ w. h.answers ++ w) k.whole;
  };
}

-- an answer was not made
pub cut_before : (s : Beginning) (t : ConversationSeen) (before now : Option (List ℕ)) (heard : List ℕ) →
    IsTelling s t before now heard → IsCutShort s before now heard
cut_before s t before now heard h = record {
  served = heard;
  left = [];
  split = sym (append-nil heard);
  answers = h.answers ++ pending t;
  answered = due s t heard h.answers h.held;
  taken = record { taken = h.answers; left = pending t; appended = h.appended; whole = refl };
}

-- more was heard than is served
pub cut_longer : (s : Beginning) (before now : Option (List ℕ)) (heard more : List ℕ) → IsCutShort s before now heard →
    IsCutShort s before now (heard ++ more)
cut_longer s before now heard more h = record {
  served = h.served;
  left = h.left ++ more;
  split = ap (λ x. x ++ more) h.split ∙ append_assoc h.served h.left more;
  answers = h.answers;
  answered = h.answered;
  taken = h.taken;
}

-- the input has ended
at_end : (input heard : List ℕ) (rest : Option (List ℕ)) → Consumes (Some input) rest heard → IsAtEnd rest →
    input ≡ heard
at_end input heard None c e = absurd c
at_end input heard (Some left) c e = c ∙ ap (λ x. heard ++ x) e ∙ append-nil heard

-- `serve` is done where the input has ended and all of its complete lines are answered
pub ends_done : (s : Beginning) (left rest before now : Option (List ℕ)) (heard : List ℕ) → Consumes left rest heard →
    IsAtEnd rest → TellsAnswers s before now heard →
    IfSome left (λ input. EndsServing s input Done rest before now)
ends_done s None rest before now heard c e h = tt
ends_done s (Some input) rest before now heard c e h =
    subst (TellsAnswers s before now) (sym (at_end input heard rest c e)) h

-- `serve` ends by the fault of a device that failed
pub ends_broken : (s : Beginning) (fault : DeviceFault) (left mid rest before now : Option (List ℕ))
    (heard bytes : List ℕ) → Consumes left mid heard → Consumes mid rest bytes →
    EndsAtFault s fault before now heard bytes →
    IfSome left (λ input. EndsServing s input (Device fault) rest before now)
ends_broken s fault None mid rest before now heard bytes c d h = tt
ends_broken s Read (Some input) mid rest before now heard bytes c d h = (
  heard,
  subst (Consumes (Some input) rest) (ap (λ x. heard ++ x) h.0 ∙ append-nil heard)
      (Consumes-trans (Some input) mid rest heard bytes c d),
  h.1,
)
ends_broken s Write (Some input) mid rest before now heard bytes c d h =
    (heard ++ bytes, Consumes-trans (Some input) mid rest heard bytes c d, h)

-- `serve` ends by a failed read where the complete lines of what was heard are answered
pub ends_read : (s : Beginning) (left rest before now : Option (List ℕ)) (heard : List ℕ) → Consumes left rest heard →
    TellsAnswers s before now heard →
    IfSome left (λ input. EndsServing s input (Device Read) rest before now)
ends_read s None rest before now heard c h = tt
ends_read s (Some input) rest before now heard c h = (heard, c, h)

unread : (fault : ImageFault) (due : Result Lists ImageFault) → IsDueFault fault due → IsUnopened (refused_as fault) due
unread ReadFault due h = inl (inl refl)
unread MemoryToRead due h = inl (inr refl)
unread fault due h = inr (fault, h, refl)

-- a file that was not opened is not served
unserved : (n : Notation) (t : Bool) (status : Status) (due : Result Lists ImageFault) (lines : List ℕ)
    (rest before : Option (List ℕ)) →
    IsUnopened status due → EndsGoingOn n t due lines status rest before before
unserved n t status (Ok l) lines rest before (inl u) = inr (u, Keeps-refl before)
unserved n t status (Ok l) lines rest before (inr d) = absurd (let bad : Ok l ≡ Err d.0 = d.1 in cc)
unserved n t status (Err fault) lines rest before (inl (inl e)) =
    subst (λ (s : Status). Ends s (Err (Image fault)) before before) (sym e) (Keeps-refl before)
unserved n t status (Err fault) lines rest before (inl (inr e)) =
    subst (λ (s : Status). Ends s (Err (Image fault)) before before) (sym e) (Keeps-refl before)
unserved n t status (Err fault) lines rest before (inr d) =
    subst (λ (s : Status). Ends s (Err (Image fault)) before before) (sym d.2) (ap image_of d.1, Keeps-refl before)

-- `serve` of an image whose file was not opened tells nothing
pub ends_unopened : (n : Notation) (t : Bool) (status : Status) (left rest before : Option (List ℕ)) →
    IfSome left (λ input. IsUnopened status (reading_of (leading input))) →
    IfSome left (λ input. EndsServingFrom n t input status rest before before)
unfolding EndsServingFrom
ends_unopened n t status None rest before h = tt
ends_unopened n t status (Some input) rest before h =
    unserved n t status (reading_of (leading input)) (following input) rest before h

-- a file that was opened is served
pub ends_opened : (n : Notation) (t : Bool) (talk : ConversationSeen) (status : Status)
    (left mid rest before now : Option (List ℕ)) →
    IfSome left (λ input. (l : Lists) × (reading_of (leading input) ≡ Ok l)
    × IsAt (beginning n t (file_of l)) talk [] []) →
    IfSome left (λ input. mid ≡ Some (following input)) →
    ((start : Beginning) → IsAt start talk [] [] →
    IfSome mid (λ lines. EndsServing start lines status rest before now)) →
    IfSome left (λ input. EndsServingFrom n t input status rest before now)
unfolding EndsServingFrom
ends_opened n t talk status None mid rest before now h e f = tt
ends_opened n t talk status (Some input) mid rest before now h e f =
    subst (λ (due : Result Lists ImageFault). EndsGoingOn n t due (following input) status rest before now) (sym h.1)
    (inl
    (subst (λ (o : Option (List ℕ)).
    IfSome o (λ lines. EndsServing (beginning n t (file_of h.0)) lines status rest before now)) e
    (f (beginning n t (file_of h.0)) h.2)))

-- bytes were heard up to an LF
pub hears : (s : Beginning) (t u : ConversationSeen) (before now : Option (List ℕ)) (heard bytes behind : List ℕ) →
    IsTelling s t before now heard →
    ((answers : List ℕ) → IsAt s t heard answers →
    (taken : List ℕ) × (bytes ≡ taken ++ behind) × IsAt s u (heard ++ taken) answers) →
    (taken : List ℕ) × (bytes ≡ taken ++ behind) × IsTelling s u before now (heard ++ taken)
hears s t u before now heard bytes behind h f =
    let d = f h.answers h.held in (d.0, d.1, record { answers = h.answers; held = d.2; appended = h.appended })

-- heard is more than what was taken
pub cut_rest : (s : Beginning) (before now : Option (List ℕ)) (heard bytes taken behind : List ℕ) →
    bytes ≡ taken ++ behind → IsCutShort s before now (heard ++ taken) → IsCutShort s before now (heard ++ bytes)
cut_rest s before now heard bytes taken behind e h =
    subst (IsCutShort s before now) (append_assoc heard taken behind ∙ ap (λ x. heard ++ x) (sym e))
    (cut_longer s before now (heard ++ taken) behind h)

-- a beginning was taken, and then more
pub takes_more : (bytes taken rest more behind : List ℕ) → bytes ≡ taken ++ rest → rest ≡ more ++ behind →
    bytes ≡ (taken ++ more) ++ behind
takes_more bytes taken rest more behind e f = e ∙ ap (λ x. taken ++ x) f ∙ sym (append_assoc taken more behind)

-- what was cut short in the rest of some bytes was cut short in all of them
pub cut_in_rest : (s : Beginning) (before now : Option (List ℕ)) (heard bytes taken rest : List ℕ) →
    bytes ≡ taken ++ rest → IsCutShort s before now ((heard ++ taken) ++ rest) →
    IsCutShort s before now (heard ++ bytes)
cut_in_rest s before now heard bytes taken rest e h =
    subst (IsCutShort s before now) (append_assoc heard taken rest ∙ ap (λ x. heard ++ x) (sym e)) h

empty_list : (xs : List ℕ) → length xs ≡ 0 → xs ≡ []
empty_list [] e = refl
empty_list (x ∷ xs) e = absurd (omega arith)

-- all bytes were taken
pub heard_all : (s : Beginning) (t : ConversationSeen) (before now : Option (List ℕ))
    (heard bytes taken rest : List ℕ) →
    bytes ≡ taken ++ rest → length rest ≡ 0 →
    IsTelling s t before now (heard ++ taken) → IsTelling s t before now (heard ++ bytes)
heard_all s t before now heard bytes taken rest e n h =
    subst (IsTelling s t before now)
    (ap (λ x. heard ++ x) (sym (e ∙ ap (λ x. taken ++ x) (empty_list rest n) ∙ append-nil taken))) h

-- a write of what waits failed before its image
pub line_cut : (t : ConversationSeen) (before now : Option (List ℕ)) → TakesBeginning before now t.waiting →
    TakesBeginning before now (pending t)
line_cut t before now h = record {
  taken = h.taken;
  left = h.left ++ image_text t.image;
  appended = h.appended;
  whole = sym (append_assoc h.taken h.left (image_text t.image)) ∙ ap (λ x. x ++ image_text t.image) h.whole;
}

-- an image was read, and its file opened
pub is_opened : (n : Notation) (t : Bool) (listing : Lists) (talk : ConversationSeen) (left : Option (List ℕ)) →
    IfSome left (λ input. (l : Lists) × (reading_of (leading input) ≡ Ok l) × (listing ≡ l)) →
    IsAt (beginning n t (file_of listing)) talk [] [] →
    IfSome left (λ input. (l : Lists) × (reading_of (leading input) ≡ Ok l)
    × IsAt (beginning n t (file_of l)) talk [] [])
is_opened n t listing talk None h k = tt
is_opened n t listing talk (Some input) h k =
    (h.0, h.1, subst (λ (l : Lists). IsAt (beginning n t (file_of l)) talk [] []) h.2 k)

-- an image was not read
pub not_opened : (fault : ImageFault) (status : Status) (left : Option (List ℕ)) → status ≡ refused_as fault →
    IfSome left (λ input. IsDueFault fault (reading_of (leading input))) →
    IfSome left (λ input. IsUnopened status (reading_of (leading input)))
not_opened fault status None is h = tt
not_opened fault status (Some input) is h =
    subst (λ (s : Status). IsUnopened s (reading_of (leading input))) (sym is)
    (unread fault (reading_of (leading input)) h)

-- a file that was opened so is served
pub served_apart : (n : Notation) (t : Bool) (talk : ConversationSeen) (status : Status)
    (held left rest before now : Option (List ℕ)) →
    IfSome held (λ image. (l : Lists) × (reading_of image ≡ Ok l) × IsAt (beginning n t (file_of l)) talk [] []) →
    ((start : Beginning) → IsAt start talk [] [] →
    IfSome left (λ lines. EndsServing start lines status rest before now)) →
    IfSome held (λ image. IfSome left (λ lines. EndsServingOf n t image lines status rest before now))
unfolding EndsServingOf
served_apart n t talk status None left rest before now h f = tt
served_apart n t talk status (Some image) None rest before now h f = tt
served_apart n t talk status (Some image) (Some lines) rest before now h f =
    subst (λ (due : Result Lists ImageFault). EndsGoingOn n t due lines status rest before now) (sym h.1)
    (inl (f (beginning n t (file_of h.0)) h.2))

-- one that was not tells nothing
pub unserved_apart : (n : Notation) (t : Bool) (status : Status) (held left rest before : Option (List ℕ)) →
    IfSome held (λ image. IsUnopened status (reading_of image)) →
    IfSome held (λ image. IfSome left (λ lines. EndsServingOf n t image lines status rest before before))
unfolding EndsServingOf
unserved_apart n t status None left rest before h = tt
unserved_apart n t status (Some image) None rest before h = tt
unserved_apart n t status (Some image) (Some lines) rest before h =
    unserved n t status (reading_of image) lines rest before h
