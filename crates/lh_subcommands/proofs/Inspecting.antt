-- From the bytes of an image to a text
use Rattle.std.proofs.Common.{◌≡◌, ◌∙◌, ◌≤◌, ℕ, List, Option, None, Some, IfSome, refl, sym, ap, subst, arith}
use Rattle.std.specs.Prelude.{Result, Ok, Err}
use Rattle.std.specs.Io.KnownBytes.{Appends}
use Rattle.std.proofs.KnownBytes.{Keeps-refl}
use Rattle.lh_bucket.specs.Listing.{Lists}
use Rattle.lh_image.specs.declared.census.Census.{Census}
use Rattle.lh_image.specs.declared.fault.ImageFault.{ImageFault}
use Rattle.lh_image.specs.declared.fault.ImageFault.TheVariants.{ReadFault, Memory}
use Rattle.lh_image.specs.declared.fault.WriteImageFault.{WriteImageFault}
use Rattle.lh_image.specs.declared.fault.WriteImageFault.TheVariants.{OldCapacity, OldRecord, TooLarge, WriteFault}
use Rattle.lh_image.specs.declared.fault.WriteImageFault.TheVariants.{Memory as MemoryToWrite}
use Rattle.lh_image.specs.declared.version.Version.TheVariants.{Two}
use Rattle.lh_image.specs.Canonical.{canonical, page_total}
use Rattle.lh_image.specs.Census.{census_of}
use Rattle.lh_image.specs.Counted.{CensusLaw}
use Rattle.lh_image.specs.Image.{IsImage}
use Rattle.lh_image.specs.Layout.{most_pages, view_of}
use Rattle.lh_image.specs.Reading.{IsDueFault, reading_of}
use Rattle.lh_image.specs.View.{page_count}
use Rattle.lh_image.specs.Writing.{IsNotOld, IsWritten}
use Rattle.lh_subcommands.specs.Devices.{TakesBeginning}
use Rattle.lh_draw.specs.Drawing.{drawing_of}
use Rattle.lh_subcommands.specs.ImageTexts.{check_text, dump_text}
use Rattle.lh_exchange.specs.declared.format.StreamFormat.{StreamFormat}
use Rattle.lh_script.specs.declared.notation.Notation.{Notation}
use Rattle.lh_subcommands.specs.Exporting.{export_due, exported_text}
use Rattle.lh_subcommands.specs.Images.{check_due, draw_due, dump_due, migrate_due, refused_as, text_or_fault}
use Rattle.lh_subcommands.specs.Images.{unwritten_as}
use Rattle.lh_subcommands.specs.Run.{Ends}
use Rattle.lh_subcommands.specs.declared.status.DeviceFault.TheVariants.{Write}
use Rattle.lh_subcommands.specs.declared.status.InputFault.TheVariants.{Image}
use Rattle.lh_subcommands.specs.declared.status.Status.{Status}
use Rattle.lh_subcommands.specs.declared.status.Status.TheVariants.{Done, Input, Device}

-- a fault that is neither a failed read nor out of memory
pub refused_for_bytes : (fault : ImageFault) → (fault ≡ ReadFault → ⊥) → (fault ≡ Memory → ⊥) →
    Input (Image fault) ≡ refused_as fault
refused_for_bytes ReadFault a b = absurd (a refl)
refused_for_bytes Memory a b = absurd (b refl)
refused_for_bytes fault a b = refl

-- a run that read no image ends without a write
unread : (text : Lists → List ℕ) (fault : ImageFault) (due : Result Lists ImageFault) (a : Option (List ℕ)) →
    IsDueFault fault due → Ends (refused_as fault) (text_or_fault text due) a a
unread text ReadFault due a h = Keeps-refl a
unread text Memory due a h = Keeps-refl a
unread text fault due a h = (ap (text_or_fault text) h, Keeps-refl a)

-- a run of `check` that read no image ends without a write
pub unchecked : (fault : ImageFault) (status : Status) (left a : Option (List ℕ)) → status ≡ refused_as fault →
    IfSome left (λ input. IsDueFault fault (reading_of input)) →
    IfSome left (λ input. Ends status (check_due input) a a)
unfolding check_due
unchecked fault status None a is h = tt
unchecked fault status (Some input) a is h =
    subst (λ (s : Status). Ends s (check_due input) a a) (sym is)
    (unread (λ l. check_text (census_of l)) fault (reading_of input) a h)

-- a run of `dump` that read no image ends without a write
pub undumped : (n : Notation) (fault : ImageFault) (status : Status) (left a : Option (List ℕ)) →
    status ≡ refused_as fault →
    IfSome left (λ input. IsDueFault fault (reading_of input)) →
    IfSome left (λ input. Ends status (dump_due n input) a a)
unfolding dump_due
undumped n fault status None a is h = tt
undumped n fault status (Some input) a is h =
    subst (λ (s : Status). Ends s (dump_due n input) a a) (sym is) (unread (dump_text n) fault (reading_of input) a h)

-- the input is an image of a listing of which something holds
abbrev pub Shows : Option (List ℕ) → (Lists → Type 0) → Type 0
Shows left IsSeen = IfSome left (λ input. (l : Lists) × (reading_of input ≡ Ok l) × IsSeen l)

-- the census of the listing is what is due
census_due : (census : Census) (l : Lists) (input : List ℕ) → reading_of input ≡ Ok l → census ≡ census_of l →
    check_due input ≡ Ok (check_text census)
unfolding check_due
census_due census l input e is =
    ap (text_or_fault (λ l. check_text (census_of l))) e ∙ ap (λ (c : Census). Ok (check_text c)) (sym is)

-- a run of `check` that wrote the census is done
pub checked : (census : Census) (text : List ℕ) (left before now : Option (List ℕ)) →
    Shows left (λ l. census ≡ census_of l) → text ≡ check_text census →
    Appends before now text → IfSome left (λ input. Ends Done (check_due input) before now)
checked census text None before now shows is h = tt
checked census text (Some input) before now shows is h =
    (check_text census, census_due census shows.0 input shows.1 shows.2, subst (Appends before now) is h)

-- a run of `check` that wrote a beginning of the census ends by a failed write
pub check_begun : (census : Census) (text : List ℕ) (left before now : Option (List ℕ)) →
    Shows left (λ l. census ≡ census_of l) → text ≡ check_text census →
    TakesBeginning before now text → IfSome left (λ input. Ends (Device Write) (check_due input) before now)
check_begun census text None before now shows is h = tt
check_begun census text (Some input) before now shows is h =
    (check_text census, census_due census shows.0 input shows.1 shows.2, subst (TakesBeginning before now) is h)

-- and so are its records
records_due : (n : Notation) (listing l : Lists) (input : List ℕ) → reading_of input ≡ Ok l → listing ≡ l →
    dump_due n input ≡ Ok (dump_text n listing)
unfolding dump_due
records_due n listing l input e is =
    ap (text_or_fault (dump_text n)) e ∙ ap (λ (x : Lists). Ok (dump_text n x)) (sym is)

-- a run of `dump` that wrote the records is done
pub dumped : (n : Notation) (listing : Lists) (left before now : Option (List ℕ)) → Shows left (λ l. listing ≡ l) →
    Appends before now (dump_text n listing) → IfSome left (λ input. Ends Done (dump_due n input) before now)
dumped n listing None before now shows h = tt
dumped n listing (Some input) before now shows h =
    (dump_text n listing, records_due n listing shows.0 input shows.1 shows.2, h)

-- a run of `dump` that wrote a beginning of the records ends by a failed write
pub dump_begun : (n : Notation) (listing : Lists) (left before now : Option (List ℕ)) → Shows left (λ l. listing ≡ l) →
    TakesBeginning before now (dump_text n listing) →
    IfSome left (λ input. Ends (Device Write) (dump_due n input) before now)
dump_begun n listing None before now shows h = tt
dump_begun n listing (Some input) before now shows h =
    (dump_text n listing, records_due n listing shows.0 input shows.1 shows.2, h)

-- and so is the stream of its records
stream_due : (format : StreamFormat) (listing l : Lists) (input : List ℕ) → reading_of input ≡ Ok l → listing ≡ l →
    export_due format input ≡ Ok (exported_text format listing)
unfolding export_due
stream_due format listing l input e is =
    ap (text_or_fault (exported_text format)) e ∙ ap (λ (x : Lists). Ok (exported_text format x)) (sym is)

-- a run that was to export records and read no image ends without a write
pub unexported : (format : StreamFormat) (fault : ImageFault) (status : Status) (left a : Option (List ℕ)) →
    status ≡ refused_as fault → IfSome left (λ input. IsDueFault fault (reading_of input)) →
    IfSome left (λ input. Ends status (export_due format input) a a)
unfolding export_due
unexported format fault status None a is h = tt
unexported format fault status (Some input) a is h =
    subst (λ (s : Status). Ends s (export_due format input) a a) (sym is)
    (unread (exported_text format) fault (reading_of input) a h)

-- a run that wrote the stream is done
pub exported : (format : StreamFormat) (listing : Lists) (left before now : Option (List ℕ)) →
    Shows left (λ l. listing ≡ l) → Appends before now (exported_text format listing) →
    IfSome left (λ input. Ends Done (export_due format input) before now)
exported format listing None before now shows h = tt
exported format listing (Some input) before now shows h =
    (exported_text format listing, stream_due format listing shows.0 input shows.1 shows.2, h)

-- a run that wrote a beginning of the stream ends by a failed write
pub export_begun : (format : StreamFormat) (listing : Lists) (left before now : Option (List ℕ)) →
    Shows left (λ l. listing ≡ l) → TakesBeginning before now (exported_text format listing) →
    IfSome left (λ input. Ends (Device Write) (export_due format input) before now)
export_begun format listing None before now shows h = tt
export_begun format listing (Some input) before now shows h =
    (exported_text format listing, stream_due format listing shows.0 input shows.1 shows.2, h)

-- and so is its drawing
drawing_due : (listing l : Lists) (input : List ℕ) → reading_of input ≡ Ok l → listing ≡ l →
    draw_due input ≡ Ok (drawing_of listing)
unfolding draw_due
drawing_due listing l input e is = ap (text_or_fault drawing_of) e ∙ ap (λ (x : Lists). Ok (drawing_of x)) (sym is)

-- a run of `draw` that read no image ends without a write
pub undrawn : (fault : ImageFault) (status : Status) (left a : Option (List ℕ)) → status ≡ refused_as fault →
    IfSome left (λ input. IsDueFault fault (reading_of input)) → IfSome left (λ input. Ends status (draw_due input) a a)
unfolding draw_due
undrawn fault status None a is h = tt
undrawn fault status (Some input) a is h =
    subst (λ (s : Status). Ends s (draw_due input) a a) (sym is) (unread drawing_of fault (reading_of input) a h)

-- a run of `draw` that wrote the drawing is done
pub drawn : (listing : Lists) (left before now : Option (List ℕ)) → Shows left (λ l. listing ≡ l) →
    Appends before now (drawing_of listing) → IfSome left (λ input. Ends Done (draw_due input) before now)
drawn listing None before now shows h = tt
drawn listing (Some input) before now shows h =
    (drawing_of listing, drawing_due listing shows.0 input shows.1 shows.2, h)

-- a run of `draw` that wrote a beginning of the drawing ends by a failed write
pub draw_begun : (listing : Lists) (left before now : Option (List ℕ)) → Shows left (λ l. listing ≡ l) →
    TakesBeginning before now (drawing_of listing) →
    IfSome left (λ input. Ends (Device Write) (draw_due input) before now)
draw_begun listing None before now shows h = tt
draw_begun listing (Some input) before now shows h =
    (drawing_of listing, drawing_due listing shows.0 input shows.1 shows.2, h)

-- and so is its image of version 2
image_due : (listing l : Lists) (input : List ℕ) → reading_of input ≡ Ok l → listing ≡ l →
    migrate_due input ≡ Ok (canonical Two listing)
unfolding migrate_due
image_due listing l input e is =
    ap (text_or_fault (canonical Two)) e ∙ ap (λ (x : Lists). Ok (canonical Two x)) (sym is)

-- a run of `migrate` that read no image ends without a write
pub unmigrated : (fault : ImageFault) (status : Status) (left a : Option (List ℕ)) → status ≡ refused_as fault →
    IfSome left (λ input. IsDueFault fault (reading_of input)) →
    IfSome left (λ input. Ends status (migrate_due input) a a)
unfolding migrate_due
unmigrated fault status None a is h = tt
unmigrated fault status (Some input) a is h =
    subst (λ (s : Status). Ends s (migrate_due input) a a) (sym is)
    (unread (canonical Two) fault (reading_of input) a h)

-- a run of `migrate` that wrote the image is done
pub migrated : (listing : Lists) (left before now : Option (List ℕ)) → Shows left (λ l. listing ≡ l) →
    IsWritten Two listing (Ok tt) before now → IfSome left (λ input. Ends Done (migrate_due input) before now)
migrated listing None before now shows h = tt
migrated listing (Some input) before now shows h =
    (canonical Two listing, image_due listing shows.0 input shows.1 shows.2, h.1)

-- an image's listing needs no more pages than the image has
pub few_pages : CensusLaw → (input : List ℕ) (l : Lists) → IsImage input l → page_total l ≤ most_pages
few_pages census input l image =
    let pages : page_total l ≡ page_count (view_of input) = ap (λ (c : Census). c.pages) (census input l image) in
    let count : page_count (view_of input) ≡ image.0 = ap (λ h. h.pages) image.2.shown.header in
    omega (arith, pages, count, image.2.shown.few)

-- a write of it failed: it is neither too large nor too wide
failed : CensusLaw → (listing : Lists) (fault : WriteImageFault) (input : List ℕ) (before now : Option (List ℕ)) →
    IsImage input listing →
    migrate_due input ≡ Ok (canonical Two listing) → IsNotOld fault → IsWritten Two listing (Err fault) before now →
    Ends (unwritten_as fault) (migrate_due input) before now
failed census listing WriteFault input before now image due new h = (canonical Two listing, due, h.1)
failed census listing MemoryToWrite input before now image due new h = absurd h.0
failed census listing OldCapacity input before now image due new h = absurd new
failed census listing (OldRecord bucket place) input before now image due new h = absurd new
failed census listing TooLarge input before now image due new h =
    absurd (omega (arith, few_pages census input listing image, h.0.1))

-- a run of `migrate` whose listing was not written as an image ends by that fault
pub migrate_begun : CensusLaw →
    (listing : Lists) (fault : WriteImageFault) (status : Status) (left before now : Option (List ℕ)) →
    status ≡ unwritten_as fault → Shows left (λ l. listing ≡ l) → IfSome left (λ input. IsImage input listing) →
    IsNotOld fault →
    IsWritten Two listing (Err fault) before now → IfSome left (λ input. Ends status (migrate_due input) before now)
migrate_begun census listing fault status None before now is shows image new h = tt
migrate_begun census listing fault status (Some input) before now is shows image new h =
    subst (λ (s : Status). Ends s (migrate_due input) before now) (sym is)
    (failed census listing fault input before now image (image_due listing shows.0 input shows.1 shows.2) new h)
