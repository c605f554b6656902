-- What decides for a pass, beside the rows of xv_model.
pub mod Decisions
