-- How the faults of an image read
use Rattle.std.specs.Prelude.{ℕ, List, ◌++◌, codes}
use Rattle.std.specs.Fmt.{decimal}
use Rattle.lh_image.specs.declared.fault.ImageFault.{ImageFault}
use Rattle.lh_image.specs.declared.fault.ImageFault.TheVariants.{Magic, HeaderField, Counts, Short, Trailing, Kind}
use Rattle.lh_image.specs.declared.fault.ImageFault.TheVariants.{BucketNumber, Level, Used, Next, Twice, Never, Slot}
use Rattle.lh_image.specs.declared.fault.ImageFault.TheVariants.{Misfit, ReadFault, Memory}
use Rattle.lh_image.specs.declared.fault.WriteImageFault.{WriteImageFault}
use Rattle.lh_image.specs.declared.fault.WriteImageFault.TheVariants.{OldCapacity, OldRecord, TooLarge, WriteFault}
use Rattle.lh_image.specs.declared.fault.WriteImageFault.TheVariants.{Memory as NoMemory}

-- the text of a fault of an image
abbrev pub image_fault_text : ImageFault → List ℕ
image_fault_text Magic = codes "image I1"
image_fault_text (HeaderField offset) = codes "image I2 at offset " ++ decimal offset
image_fault_text Counts = codes "image I3"
image_fault_text Short = codes "image I4"
image_fault_text Trailing = codes "image I5"
image_fault_text (Kind page) = codes "image I6 at page " ++ decimal page
image_fault_text (BucketNumber page) = codes "image I7 at page " ++ decimal page
image_fault_text (Level page) = codes "image I8 at page " ++ decimal page
image_fault_text (Used page) = codes "image I9 at page " ++ decimal page
image_fault_text (Next page) = codes "image I10 at page " ++ decimal page
image_fault_text (Twice page) = codes "image I11 at page " ++ decimal page
image_fault_text (Never page) = codes "image I12 at page " ++ decimal page
image_fault_text (Slot page) = codes "image I13 at page " ++ decimal page
image_fault_text (Misfit page) = codes "image I14 at page " ++ decimal page
image_fault_text ReadFault = codes "read failed"
image_fault_text Memory = codes "no memory"

-- the text of a fault of writing an image
abbrev pub write_image_fault_text : WriteImageFault → List ℕ
write_image_fault_text OldCapacity = codes "image V1"
write_image_fault_text (OldRecord bucket place) =
    codes "image V2 at bucket " ++ decimal bucket ++ codes " place " ++ decimal place
write_image_fault_text TooLarge = codes "image too large"
write_image_fault_text WriteFault = codes "write failed"
write_image_fault_text NoMemory = codes "no memory"
