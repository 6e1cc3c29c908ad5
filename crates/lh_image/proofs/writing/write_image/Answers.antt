use Rattle.lh_image.proofs.Bytes.Fitting.{fits_two}
use Rattle.lh_image.proofs.writing.write_image.Goals as goal

pub write_version-requires-clause-fits : goal.write_version-requires-clause-fits
write_version-requires-clause-fits g c = fits_two c.args.listing.now c.image_pages.ensures.kept
